use Rattle.std.proofs.Common.{sym, subst}
use Rattle.line_view.specs.Knowledge.{Lines}
use Rattle.stable_lines.specs.Kept.{Kept}
use Rattle.restored_rolls.proofs.Source as source
use Rattle.restored_rolls.proofs.Sound as sound
use Rattle.restored_rolls.proofs.laws.what_was_lost_comes_back.Goals as goal

pub returns-clause-ready : goal.returns-clause-ready
returns-clause-ready c = λ was image classes now head lines journal groups number copies journals has keeps is meets.
    record {
      may = source.may was image classes head lines journal groups keeps is;
      source = source.source was image classes head lines journal groups keeps is copies journals has.stand has.follows;
      fits = source.fits was image classes head lines journal groups is meets.fit;
      sound = sound.sound was image classes head lines journal groups is meets.fit number has.backup now meets.classes_are;
    }

pub returns-clause-back : goal.returns-clause-back
returns-clause-back c = λ was image end now root lost lines groups journal rolled is.
    subst (λ (ls : Lines). Kept now ls journal end) (sym rolled.behind) is.kept
