use Rattle.line_versions.specs.Files.{entries_in}
use Rattle.line_versions.proofs.Slots.{one_each}
use Rattle.line_versions.proofs.Length.{walk_within}
use Rattle.line_versions.proofs.laws.walks_are_short.Goals as goal

pub returns : goal.returns
returns c = λ image followed r key over line answer limit most walk. walk_within (entries_in image) (one_each image) followed r key over line answer limit most walk
