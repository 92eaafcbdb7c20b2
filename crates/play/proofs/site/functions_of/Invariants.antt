use Rattle.std.proofs.Common.{◌≡◌, ◌+◌, ◌≤◌, ◌++◌, length, drop, map, true}
use Rattle.std.specs.List.{list_all}
use Rattle.play.specs.Program.{declared}
use Rattle.play.specs.Site.{is_listed, stub_numbers, plain_count, site_tree}
use Rattle.play.specs.Machine.{func_of, BodiesAre}
use Rattle.play.proofs.site.functions_of.Given as goal

abbrev pub invariant-loop-item : goal.invariant-loop-item
invariant-loop-item l = record {
  are : map func_of l.functions ++ declared (site_tree (drop l.next l.manifest.plain) (drop l.item-index l.items)) ≡ declared (site_tree l.manifest.plain l.items);
  count : l.next + plain_count (drop l.item-index l.items) ≡ length l.manifest.plain;
  listed : list_all (is_listed l.manifest.clusters) (stub_numbers (drop l.item-index l.items)) ≡ true;
  bound : l.next ≤ l.item-index;
  bodies : BodiesAre l.manifest l.functions;
}
