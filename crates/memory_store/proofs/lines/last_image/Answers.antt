use Rattle.std.proofs.Common.{Some, None, sym, ◌∙◌}
use Rattle.memory_store.proofs.Laying.{image-behind}
use Rattle.memory_store.proofs.lines.last_image.Goals as goal

pub returns-in-Some : goal.returns-in-Some
returns-in-Some c all before = c.shown_image.ensures ∙ sym (image-behind c.args.own.now.lines all c.args.key (Some c.in-Some.line.now) c.line.ensures.ordered (sym c.in-Some.ensures.found))

pub returns-in-None : goal.returns-in-None
returns-in-None c all before = before ∙ sym (image-behind c.args.own.now.lines all c.args.key None c.line.ensures.ordered (sym c.in-None.ensures.found))
