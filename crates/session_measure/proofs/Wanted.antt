-- A want opens, goes on, or is got.
use Rattle.std.proofs.Common.{◌≡◌, ℕ, List, Bool, true, false, refl, sym, ap, subst, ◌∙◌, inl, inr, Option, Some, None}
use Rattle.std.specs.Prelude.{is_some}
use Rattle.std.proofs.lemmas.Option.{none-some}
use Rattle.rdo_ast.specs.declared.reply.Standing.{Standing}
use Rattle.rdo_ast.specs.declared.syntax.Item.{Item}
use Rattle.lock_needs.specs.declared.need.Need.{Need as LockNeed}
use Rattle.lock_needs.specs.declared.party.OpenWant.{OpenWant}
use Rattle.lock_tree_laws.specs.Forest.{opened_of}
use Rattle.lock_tree_laws.specs.Progress.{Falls as LocksFall, NeverRises}
use Rattle.line_view.specs.Held.{Held}
use Rattle.session_states.specs.declared.stage.Work.TheVariants.{Opening, Due, Out, Lacking, Housing, Fetching, Lodging}
use Rattle.session_states.specs.declared.stage.Stage.{Stage}
use Rattle.session_states.specs.declared.stage.Stage.TheVariants.{Between, Working, Gathering, Reserving, Saying, Ending}
use Rattle.session_states.specs.declared.stage.Phase.{Phase}
use Rattle.session_states.specs.declared.stage.Phase.TheVariants.{Writing}
use Rattle.session_states.specs.declared.stage.Member.{Member}
use Rattle.session_states.specs.Locks.{lock_of}
use Rattle.session_states.specs.Turns.{got}
use Rattle.session_states.specs.States.{session, writer}
use Rattle.session_measure.specs.Weights.{Beside, Falls, unopened}
use Rattle.session_measure.specs.Nearer.{is_between, is_out, takes_next, has_out, ComesNearer, StaysNear}
use Rattle.session_measure.proofs.Falling.{by-want, got-falls}
use Rattle.session_measure.proofs.Nearer.{same-rounds, same-weight, near}

-- ---- stages that want a lock

pub wants-between : (stage : Stage) (n : LockNeed) → lock_of stage ≡ Some n → is_between stage ≡ false
wants-between Between n e = absurd (none-some n e)
wants-between (Working item work) n e = refl
wants-between (Gathering item gather later place) n e = refl
wants-between (Reserving item r locks place) n e = refl
wants-between (Saying item r laying) n e = refl
wants-between (Ending end) n e = refl

pub wants-in : (stage : Stage) (n : LockNeed) → lock_of stage ≡ Some n → is_out stage ≡ false
wants-in Between n e = absurd (none-some n e)
wants-in (Working item Opening) n e = absurd (none-some n e)
wants-in (Working item Due) n e = absurd (none-some n e)
wants-in (Working item Out) n e = absurd (none-some n e)
wants-in (Working item (Lacking m)) n e = refl
wants-in (Working item (Housing room key)) n e = refl
wants-in (Working item (Fetching m)) n e = absurd (none-some n e)
wants-in (Working item (Lodging room key)) n e = absurd (none-some n e)
wants-in (Gathering item gather later place) n e = refl
wants-in (Reserving item r locks place) n e = refl
wants-in (Saying item r laying) n e = refl
wants-in (Ending end) n e = refl

got-in : (stage : Stage) (n : LockNeed) → lock_of stage ≡ Some n → is_out (got stage) ≡ false
got-in Between n e = absurd (none-some n e)
got-in (Working item Opening) n e = absurd (none-some n e)
got-in (Working item Due) n e = absurd (none-some n e)
got-in (Working item Out) n e = absurd (none-some n e)
got-in (Working item (Lacking m)) n e = refl
got-in (Working item (Housing room key)) n e = refl
got-in (Working item (Fetching m)) n e = absurd (none-some n e)
got-in (Working item (Lodging room key)) n e = absurd (none-some n e)
got-in (Gathering item gather later place) n e = refl
got-in (Reserving item r locks place) n e = refl
got-in (Saying item r laying) n e = refl
got-in (Ending end) n e = refl

-- ---- from so many rounds to as many

as-many : (k l s : ℕ) (c d : Beside) (m n : Member) → l ≡ k → Falls k k c d s m n → Falls k l c d s m n
as-many k l s c d m n e falls = subst (λ (j : ℕ). Falls k j c d s m n) (sym e) falls

module _ (s : ℕ) (c d : Beside) (standing : Standing) (known : Held) (spoken waits : Bool) (stage : Stage) (n : LockNeed) (wants : lock_of stage ≡ Some n) where
  abbrev was : Phase
  was = Writing (writer standing known spoken waits stage)

  abbrev is : Phase
  is = Writing (writer standing known spoken waits (got stage))

  pub nearer-got : (left : List Item) (total : ℕ) → ComesNearer c d s (session left total was) (session left total is)
  nearer-got left total = record {
    nears = λ k l r. inl (as-many k l s c d (session left total was) (session left total is) (same-rounds was is k l (wants-between stage n wants) (got-in stage n wants) r)
        (got-falls k s c d left total standing known spoken waits stage n wants));
  }

-- ---- a want that is open behind the call

module _ (s : ℕ) (c d : Beside) (x : Phase) (none : takes_next x ≡ false) (kept : has_out x ≡ false) (steps : d.steps s ≡ c.steps s) (w : OpenWant) (open_ : opened_of d.locks s ≡ Some w) (left : List Item) (total : ℕ) where
  abbrev m : Member
  m = session left total x

  opens : (k l : ℕ) → l ≡ k → opened_of c.locks s ≡ None → Falls k l c d s m m
  opens k l e closed = as-many k l s c d m m e (by-want k s c d m w closed open_)

  -- a want that was open moves on
  pub stays-asked : (is_some (opened_of c.locks s) ≡ true → NeverRises s c.locks d.locks) → StaysNear c d s m m
  stays-asked on = by (opened_of c.locks s) refl
    where
      by : (o : Option OpenWant) → opened_of c.locks s ≡ o → StaysNear c d s m m
      by None closed = near s c d m m (λ k l r. opens k l (same-rounds x x k l none kept r) closed)
      by (Some v) was = record {
        keeps = λ k l r. inr (same-weight k l s c d m (same-rounds x x k l none kept r) (ap unopened open_ ∙ sym (ap unopened was)) steps, on (ap is_some was));
      }

  -- and comes further
  pub nearer-asked : ((v : OpenWant) → opened_of c.locks s ≡ Some v → LocksFall s c.locks d.locks) → ComesNearer c d s m m
  nearer-asked further = by (opened_of c.locks s) refl
    where
      by : (o : Option OpenWant) → opened_of c.locks s ≡ o → ComesNearer c d s m m
      by None closed = record { nears = λ k l r. inl (opens k l (same-rounds x x k l none kept r) closed) }
      by (Some v) was = record {
        nears = λ k l r. inr (same-weight k l s c d m (same-rounds x x k l none kept r) (ap unopened open_ ∙ sym (ap unopened was)) steps, further v was);
      }
