use Rattle.std.proofs.Common.{◌≡◌, sym, ap, subst, ◌∙◌}
use Rattle.std.specs.FinMap.Entries.{put}
use Rattle.rdb_types.specs.declared.keys.Line.{Line}
use Rattle.rdb_types.specs.Order.{dbkey_order}
use Rattle.line_versions.specs.Lines.{shown_as}
use Rattle.member_memory.specs.Memory.{AreKeysOf, writes_in}
use Rattle.member_memory.proofs.Counting.{on-some}
use Rattle.member_memory.proofs.Rewriting.{put-kept, same-writes}
use Rattle.member_memory.proofs.lines.MemberLines.set_chain.Goals as goal

abbrev next_of : goal.After-exchange-before → Line
next_of c = record { state = c.in-Some.line.now.state; tsn = c.in-Some.line.now.tsn; chain = c.args.chain; image = c.from_bytes.result }

put-in : (c : goal.After-exchange-before) → c.exchange-before.new.self ≡ put dbkey_order c.args.key (next_of c) c.self.inside.lines
put-in c = on-some c.exchange-before.result c.in-Some.line.now _ (c.exchange-before.ensures.found ∙ sym c.in-Some.ensures) c.exchange-before.ensures.some

pub invariant_of-self : goal.invariant_of-self
invariant_of-self c =
    (subst (λ lines. AreKeysOf lines c.self.inside.keys.items) (sym (put-in c)) (put-kept c.args.key (next_of c) c.in-Some.line.now c.self.inside.lines c.self.inside.keys.items (sym c.in-Some.ensures) c.self.invariant.0), c.self.invariant.1)

pub returns-in-Some-clause-same : goal.returns-in-Some-clause-same
returns-in-Some-clause-same c =
    ap writes_in (put-in c)
    ∙ same-writes c.args.key (next_of c) c.in-Some.line.now c.self.inside.lines c.self.invariant.0.ordered (sym c.in-Some.ensures) (ap (shown_as c.in-Some.line.now.state) (c.from_bytes.ensures ∙ c.bytes.ensures.value))
    ∙ ap (λ m. writes_in m.lines) c.self.view_is
