-- An account with which a run opens on an image that may be opened.
use Rattle.std.proofs.Common.{IsTrue, length, refl, arith}
use Rattle.rdb_outside.specs.Disk.{View}
use Rattle.root_file.specs.declared.Root.{Root}
use Rattle.line_view.specs.Knowledge.{Lines}
use Rattle.stable_lines.specs.Journal.{slots_in}
use Rattle.rdb_account.specs.Places.{Opening, Place}
use Rattle.session_jobs.specs.Records.{Model}
use Rattle.line_steps.specs.Images.{IsNow}
use Rattle.store_shows.specs.Shows.{OpensTo}
use Rattle.opened_store.specs.Opened.{is_taken_in}
use Rattle.line_runs.specs.Openings.{OpensWith}

module _ (M : Model) (v : View) (t : IsTrue v.tells) (o : Opening) (lines : Lines) (opens : OpensTo v.content lines) (p : Place) (now : IsNow M o p lines) where
  abbrev root : Root
  root = opens.has.kept.root

  -- it has the limits, the taken pages and the groups of the image
  abbrev pub later : Opening
  later = record {
    word = o.word;
    script = o.script;
    stops = o.stops;
    tables = now.tables;
    limits = record { pages = root.limits.pages; snapshots = root.limits.snaps; entries = root.limits.entries; slots = root.limits.slots };
    has_owner = λ file page. is_taken_in v.content root.limits.pages file page;
    group_slots = length (slots_in opens.has.journal);
    moment = 0;
    may_die = o.may_die;
  }

  pub opens-later : OpensWith M v later
  opens-later = record {
    tells = t;
    classes = opens.has.classes;
    lines = lines;
    journal = opens.has.journal;
    kept = opens.has.kept;
    by_area = opens.by_area;
    lie = opens.lie;
    stands = now.stands;
    opens = record {
      root = root;
      is = opens.has.kept.is_root.is;
      limits = record { pages = refl; snaps = refl; entries = refl; slots = refl };
      owners = λ file page is. is;
      slots = omega arith;
      past = omega arith;
    };
  }
