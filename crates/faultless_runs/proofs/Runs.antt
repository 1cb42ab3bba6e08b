-- Images that stand for tables have no faults to list, nor have those behind runs.
use Rattle.std.proofs.Common.{List}
use Rattle.rdb_outside.specs.Disk.{Image, View, IsPending, LeftNow}
use Rattle.rdb_meaning.specs.declared.tables.Tables.{Tables}
use Rattle.line_view.specs.Knowledge.{Lines}
use Rattle.member_steps.specs.Standing.{HasLines}
use Rattle.rdb_account.specs.Events.{Event}
use Rattle.rdb_account.specs.Places.{Opening, place}
use Rattle.session_jobs.specs.Records.{Model}
use Rattle.line_runs.specs.Prefix.{HoldsAll, HoldsPrefix, StandsFor}
use Rattle.sound_maps.specs.Maps.{IsSoundWith}
use Rattle.faultless_databases.specs.sound_lines.Sound.{IsSound}
use Rattle.faultless_databases.specs.Faultless.{HasNoFaults}
use Rattle.faultless_databases.proofs.Whole.{no_fault}

pub is_sound : (lines : Lines) (t : Tables) → IsSoundWith lines t → IsSound lines
is_sound lines t is = is.1

-- for whichever soundness says at least this
module _ (M : Model) (sound : (lines : Lines) (t : Tables) → M lines t → IsSound lines) where
  of_lines : (image : Image) (lines : Lines) (t : Tables) → HasLines image lines → M lines t → HasNoFaults image
  of_lines image lines t has stands = no_fault has.classes lines has.journal image has.kept (sound lines t stands)

  pub standing : (t : Tables) (image : Image) → StandsFor M t image → HasNoFaults image
  standing t image is = of_lines image is.0 t is.1 is.2

  module _ (o : Opening) (v : View) (events : List Event) where
    pub left_now : HoldsPrefix M o v events → (image : Image) → LeftNow v image → HasNoFaults image
    left_now holds image left = let is = holds.now image left in of_lines image is.lines is.stands.tables is.opens.has is.stands.stands

    pub left_since : (holds : HoldsPrefix M o v events) → (image : Image) → v.left_since holds.began image → HasNoFaults image
    left_since holds image left =
        let opens = holds.openable image left in
        let stood = (holds.opening image left opens.0 opens.1.has).stood in
        of_lines image opens.0 stood.tables opens.1.has stood.stands

    pub left_whole : HoldsAll M o v events → (image : Image) → IsPending v image → HasNoFaults image
    left_whole holds image pending = let is = holds.each image pending in of_lines image is.0 (place o events).tables is.1.has is.2
