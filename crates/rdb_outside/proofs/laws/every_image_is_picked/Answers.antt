use Rattle.rdb_outside.specs.Told.{calls_of}
use Rattle.rdb_outside.proofs.Crashes.{choice_of, choice_length, complete}
use Rattle.rdb_outside.proofs.laws.every_image_is_picked.Goals as goal

pub returns : goal.returns
returns c = λ d t image left. record {
  moment = left.calls;
  from = left.from;
  made = left.made;
  kept = choice_of (calls_of d left.calls) image;
  one_each = choice_length (calls_of d left.calls) image;
  same = complete (calls_of d left.calls) image left.is_image;
}
