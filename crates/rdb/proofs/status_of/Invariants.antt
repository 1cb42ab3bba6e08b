-- Nothing is told of files.
use Rattle.std.proofs.Common.{[], false, true}
use Rattle.rdb_meaning.specs.Contents.{no_tables}
use Rattle.rdb.proofs.status_of.Given as goal

abbrev pub ghosts-run : goal.ghosts-run
ghosts-run g a = record {
  opening = record {
    word = [];
    script = λ s. [];
    stops = λ s. false;
    tables = no_tables;
    limits = record { pages = 0; snapshots = 0; entries = 0; slots = 0 };
    has_owner = λ file page. false;
    group_slots = 0;
    moment = 0;
    may_die = λ s cause. true;
  };
  sessions = 0;
  faults = 0;
  told = ⊥;
}
