-- A line that a reader sees, and what a call that failed says.
use Rattle.std.proofs.Common.{◌≡◌, ℕ, Option, Some, None, Result, Ok, Err, IsTrue, refl, sym, ap, subst}
use Rattle.std.specs.Prelude.{IsErrOf, OnOk, OnErr}
use Rattle.rdb_types.specs.declared.keys.Line.{Line}
use Rattle.rdb_types.specs.declared.keys.LineState.{LineState}
use Rattle.rdb_types.specs.declared.keys.LineState.TheVariants.{Never, Present, Erased}
use Rattle.rdb_outside.specs.Disk.{View}
use Rattle.line_view.specs.Knowledge.{Lines, IsInOrder}
use Rattle.line_versions.specs.Lines.{shown, shown_as}
use Rattle.line_versions.specs.Versions.{Start}
use Rattle.disk_seats.specs.Ledgers.{Ledger}
use Rattle.backup_making.specs.declared.making.Stage.{Stage}
use Rattle.backup_making.specs.declared.making.Stage.TheVariants.{Begun, Blanked, Open, Closed, Headed, Ended}
use Rattle.backup_making.specs.Making.{Former}
use Rattle.reader_lines.specs.Readers.{IsReader}
use Rattle.next_lines.specs.declared.next.NextLine.{NextLine}
use Rattle.next_lines.specs.Next.{Leads}
use Rattle.next_lines.specs.partial_backup.declared.copying.Copying.{Copying}
use Rattle.next_lines.specs.partial_backup.Partial.{IsCopying}
use Rattle.backup_steps.specs.Steps.{due}

pub told_on : {T U E : Type 0} (x y : E) → IsErrOf {T = T} (Err x) y → IsErrOf {T = U} (Err x) y
told_on x y is = let same : x ≡ y = cc in ap Err same

pub is_shown : (l : Line) → l.state ≡ Present → shown l ≡ Some l.image
is_shown l is = ap (λ (s : LineState). shown_as s l.image) is

pub not_shown : (l : Line) → (l.state ≡ Present → ⊥) → shown l ≡ None
not_shown l isnt = by l.state isnt
  where
    by : (s : LineState) → (s ≡ Present → ⊥) → shown_as s l.image ≡ None
    by Never no_more = refl
    by Present no_more = absurd (no_more refl)
    by Erased no_more = refl

-- ---- answers

pub err_same : {T E : Type 0} (x y : E) → ◌≡◌ {A = Result T E} (Err x) (Err y) → x ≡ y
err_same x y is = cc

abbrev pub Keeps : View → View → Copying → Type 0
Keeps v w c = IsTrue v.tells → (former : Former) (classes : ℕ → ℕ) (lines : Lines) → IsCopying former classes lines v c → IsCopying former classes lines w c

pub err_keeps : {T E : Type 0} (r : Result T E) (v w : View) (c : Copying) → Keeps v w c → OnErr r (Keeps v w c)
err_keeps (Ok x) v w c keeps = tt
err_keeps (Err e) v w c keeps = keeps

-- ---- the line that is due

pub due_is : (s : Stage) (next : Option NextLine) (n : NextLine) → Some n ≡ due s next → Some n ≡ next
due_is Begun next n is = let bad : ⊥ = cc in absurd bad
due_is Blanked next n is = let bad : ⊥ = cc in absurd bad
due_is Open next n is = is
due_is Closed next n is = let bad : ⊥ = cc in absurd bad
due_is Headed next n is = let bad : ⊥ = cc in absurd bad
due_is Ended next n is = let bad : ⊥ = cc in absurd bad

pub due_none : (s : Stage) (next : Option NextLine) → None ≡ due s next → s ≡ Open → next ≡ None
due_none Begun next is opens = let bad : ⊥ = cc in absurd bad
due_none Blanked next is opens = let bad : ⊥ = cc in absurd bad
due_none Open next is opens = sym is
due_none Closed next is opens = let bad : ⊥ = cc in absurd bad
due_none Headed next is opens = let bad : ⊥ = cc in absurd bad
due_none Ended next is opens = let bad : ⊥ = cc in absurd bad

-- what a step of one line comes to, and a step
abbrev pub LineCopied : View → View → ℕ → Start → NextLine → Copying → Copying → Type 0
LineCopied v w limit start next c d = IsTrue v.tells → (former : Former) (classes : ℕ → ℕ) (ledger : Ledger) (lines : Lines) → IsReader v ledger limit start lines → Leads classes lines c.from (Some next) → IsCopying former classes lines v c → IsCopying former classes lines w d

abbrev pub StepCopied : View → View → ℕ → Start → Option NextLine → Copying → Copying → Type 0
StepCopied v w limit start next c d = IsTrue v.tells → (former : Former) (classes : ℕ → ℕ) (ledger : Ledger) (lines : Lines) → IsReader v ledger limit start lines → IsInOrder lines → Leads classes lines c.from next → IsCopying former classes lines v c → IsCopying former classes lines w d

pub line_step : {T E : Type 0} (r : Result T E) (v w : View) (limit : ℕ) (start : Start) (n : NextLine) (next : Option NextLine) (c d : Copying) → Some n ≡ next → OnOk r (LineCopied v w limit start n c d) → OnOk r (StepCopied v w limit start next c d)
line_step (Ok x) v w limit start n next c d same copied = λ t former classes ledger lines reader ordered leads was.
    copied t former classes ledger lines reader (subst (λ (o : Option NextLine). Leads classes lines c.from o) (sym same) leads) was
line_step (Err e) v w limit start n next c d same copied = tt
