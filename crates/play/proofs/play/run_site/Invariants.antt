use Rattle.std.proofs.Common.{◌≡◌, ◌≤◌, Some}
use Rattle.dl_ports.specs.Files.{Files}
use Rattle.play.specs.Machine.{IsSound}
use Rattle.play.specs.Answers.{Ahead, SiteAgrees, site_left, missing}
use Rattle.play.proofs.play.run_site.Given as goal

abbrev pub invariant-clusters : goal.invariant-clusters
invariant-clusters g l = record {
  sound : IsSound l.table;
  files : g.S.Store.files l.store ≡ g.S.Store.files l.initial.store;
  ahead : (files : Files) → g.S.Store.files l.initial.store ≡ Some files → SiteAgrees files l.folder l.initial.table → Ahead files l.folder (site_left files l.folder l.initial.table l.initial.machine) (g.S.Store.asked l.initial.store) (g.S.Store.asked l.store) l.table l.machine;
  faults : g.S.Port.faults l.store ≡ g.S.Port.faults l.initial.store;
  write_faults : g.S.Store.write_faults l.store ≡ g.S.Store.write_faults l.initial.store;
}

abbrev pub decreases-clusters : goal.decreases-clusters
decreases-clusters g l = missing l.table.loaded
