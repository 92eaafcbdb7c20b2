use Rattle.std.proofs.Common.{◌≡◌, ◌+◌, ◌≤◌, drop}
use Rattle.std.specs.List.{list_all}
use Rattle.play.specs.Site.{is_listed, stub_numbers, plain_count}
use Rattle.play.proofs.site.fits.Given as goal

abbrev pub invariant-loop-item : goal.invariant-loop-item
invariant-loop-item l = record {
  stubs : list_all (is_listed l.manifest.clusters) (stub_numbers (drop l.item-index l.items)) ≡ list_all (is_listed l.manifest.clusters) (stub_numbers l.items);
  count : l.plain + plain_count (drop l.item-index l.items) ≡ plain_count l.items;
  bound : l.plain ≤ l.item-index;
}
