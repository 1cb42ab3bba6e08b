use Rattle.backup_file.specs.Whole.{lines_in}
use Rattle.restored_rolls.proofs.Source as source
use Rattle.restored_rolls.proofs.Sound as sound
use Rattle.restored_rolls.proofs.laws.restored_may_be_rolled.Goals as goal

pub returns-clause-may : goal.returns-clause-may
returns-clause-may c = λ was image classes head lines journal groups keeps is. source.may was image classes head lines journal groups keeps is

pub returns-clause-source : goal.returns-clause-source
returns-clause-source c = λ was image classes head lines journal groups copies journals keeps is stand follows. source.source was image classes head lines journal groups keeps is copies journals stand follows

pub returns-clause-first : goal.returns-clause-first
returns-clause-first c = λ was image classes head lines journal groups is. source.first image is.root (lines_in lines) groups

pub returns-clause-sound : goal.returns-clause-sound
returns-clause-sound c = λ was image classes now head lines journal groups number backup is fit have. sound.sound was image classes head lines journal groups is fit number backup now have

pub returns-clause-classes : goal.returns-clause-classes
returns-clause-classes c = λ was image classes head lines journal groups is fit each. sound.have_classes was image classes head lines journal groups is fit each
