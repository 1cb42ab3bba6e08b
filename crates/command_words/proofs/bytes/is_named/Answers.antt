use Rattle.std.proofs.Common.{◌≡◌, Some, None, sym, ap, ◌∙◌}
use Rattle.std.specs.Option.{option_copied}
use Rattle.command_words.specs.Bytes.{behind}
use Rattle.command_words.proofs.Named.{ends_there, named, none_left, some_left}
use Rattle.command_words.proofs.bytes.is_named.Goals as goal

pub returns-in-None : goal.returns-in-None
returns-in-None c =
    let found : behind c.args.name.now c.args.word.now ≡ None = sym c.behind.ensures ∙ ap option_copied c.in-None.is in
    sym (ap ends_there found) ∙ named c.args.name.now c.args.word.now

pub returns-in-Some-empty : goal.returns-in-Some-empty
returns-in-Some-empty c =
    let found : behind c.args.name.now c.args.word.now ≡ Some c.in-Some-empty.field-0.now = sym c.behind.ensures ∙ ap option_copied c.in-Some-empty.is in
    sym (ap ends_there found ∙ none_left c.in-Some-empty.field-0.now c.in-Some-empty.len_below) ∙ named c.args.name.now c.args.word.now

pub returns-in-Some-len1-up : goal.returns-in-Some-len1-up
returns-in-Some-len1-up c =
    let found : behind c.args.name.now c.args.word.now ≡ Some c.in-Some-len1-up.field-0.now = sym c.behind.ensures ∙ ap option_copied c.in-Some-len1-up.is in
    sym (ap ends_there found ∙ some_left c.in-Some-len1-up.field-0.now c.in-Some-len1-up.len_at_least) ∙ named c.args.name.now c.args.word.now
