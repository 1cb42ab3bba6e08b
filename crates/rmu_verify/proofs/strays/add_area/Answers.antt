use Rattle.std.proofs.Common.{◌∙◌, ◌++◌, ap}
use Rattle.line_view.specs.Knowledge.{Lines, keys_of}
use Rattle.rmu_verify.proofs.strays.add_area.Goals as goal

pub returns-in-Ok-clause-found : goal.returns-in-Ok-clause-found
returns-in-Ok-clause-found g c = λ file owner t left so groups lines lays stands.
    c.in-Ok.ensures ∙ ap (λ (l : Lines). c.args.keys.now ++ keys_of l) (c.in_ok-found.ensures.lines t file owner left so groups lines lays stands)
