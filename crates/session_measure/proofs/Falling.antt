-- The numbers fall.
use Rattle.std.proofs.Common.{◌≡◌, ◌<◌, ℕ, zero, suc, ◌+◌, ◌-◌, ◌*◌, ◌∷◌, [], Bool, List, length, refl, ap, arith, Option, Some, None, slice_get, inl, inr}
use Rattle.std.proofs.lemmas.Option.{none-some}
use Rattle.rdo_ast.specs.declared.reply.Standing.{Standing}
use Rattle.rdo_ast.specs.declared.syntax.Item.{Item}
use Rattle.lock_needs.specs.declared.need.Need.{Need as LockNeed}
use Rattle.lock_needs.specs.declared.party.OpenWant.{OpenWant}
use Rattle.lock_tree_laws.specs.Forest.{opened_of}
use Rattle.line_view.specs.declared.need.Need.{Need}
use Rattle.line_view.specs.declared.writes.Write.{Write}
use Rattle.line_view.specs.Held.{Held}
use Rattle.rdb_drive.specs.Boards.{Less}
use Rattle.session_states.specs.declared.stage.Work.TheVariants.{Opening as OpeningIt, Due, Out, Lacking, Housing, Fetching, Lodging}
use Rattle.session_states.specs.declared.stage.Gather.TheVariants as gather
use Rattle.session_states.specs.declared.stage.Laying.TheVariants.{Claiming, Changing, Broken}
use Rattle.session_states.specs.declared.stage.End.TheVariants.{Preparing, Journal, Ready, Committing, RollingBack, Leaving}
use Rattle.session_states.specs.declared.stage.Stage.{Stage}
use Rattle.session_states.specs.declared.stage.Stage.TheVariants.{Between, Working, Gathering, Reserving, Saying, Ending}
use Rattle.session_states.specs.declared.stage.Phase.TheVariants.{Writing}
use Rattle.session_states.specs.declared.stage.Member.{Member}
use Rattle.session_states.specs.Locks.{lock_of, lock_of_write}
use Rattle.session_states.specs.Turns.{got}
use Rattle.session_states.specs.States.{session, writer}
use Rattle.session_measure.specs.Weights.{Beside, life_left, items_left, rank, round_left, places_left, unopened, Falls, sum_of}

-- ---- where the first number stands that falls

pub by-life : (k l s : ℕ) (c d : Beside) (m n : Member) → life_left n.life < life_left m.life → Falls k l c d s m n
by-life k l s c d m n h = inl (h, refl)

pub by-rank : (k l s : ℕ) (c d : Beside) (m n : Member) → life_left n.life ≡ life_left m.life → items_left n ≡ items_left m → rank n.phase < rank m.phase → Falls k l c d s m n
by-rank k l s c d m n e f h = inr (e, inr (f, inl (h, refl)))

pub by-rounds : (k l s : ℕ) (c d : Beside) (m n : Member) → life_left n.life ≡ life_left m.life → items_left n ≡ items_left m → rank n.phase ≡ rank m.phase → l < k → Falls k l c d s m n
by-rounds k l s c d m n e f g h = inr (e, inr (f, inr (g, inl (h, refl))))

pub by-round : (k l s : ℕ) (c d : Beside) (m n : Member) → life_left n.life ≡ life_left m.life → items_left n ≡ items_left m → rank n.phase ≡ rank m.phase → l ≡ k → round_left n.phase < round_left m.phase → Falls k l c d s m n
by-round k l s c d m n e f g r h = inr (e, inr (f, inr (g, inr (r, inl (h, refl)))))

pub by-place : (k l s : ℕ) (c d : Beside) (m n : Member) → life_left n.life ≡ life_left m.life → items_left n ≡ items_left m → rank n.phase ≡ rank m.phase → l ≡ k → round_left n.phase ≡ round_left m.phase → places_left n.phase < places_left m.phase → Falls k l c d s m n
by-place k l s c d m n e f g r j h = inr (e, inr (f, inr (g, inr (r, inr (j, inl (h, refl))))))

pub by-items : (k l s : ℕ) (c d : Beside) (m n : Member) → life_left n.life ≡ life_left m.life → items_left n < items_left m → Falls k l c d s m n
by-items k l s c d m n e h = inr (e, inl (h, refl))

pub by-want : (k s : ℕ) (c d : Beside) (m : Member) (w : OpenWant) → opened_of c.locks s ≡ None → opened_of d.locks s ≡ Some w → Falls k k c d s m m
by-want k s c d m w none some = inr (refl, inr (refl, inr (refl, inr (refl, inr (refl, inr (refl, inl (fewer, refl)))))))
  where
    fewer : unopened (opened_of d.locks s) < unopened (opened_of c.locks s)
    fewer = let a = ap unopened none in let b = ap unopened some in omega (arith, a, b)

pub by-steps : (k s : ℕ) (c d : Beside) (m : Member) → opened_of d.locks s ≡ opened_of c.locks s → d.steps s < c.steps s → Falls k k c d s m m
by-steps k s c d m e h = inr (refl, inr (refl, inr (refl, inr (refl, inr (refl, inr (refl, inr (ap unopened e, inl (h, refl))))))))

-- ---- places

within : {A : Type 0} (xs : List A) (place : ℕ) (x : A) → slice_get xs place ≡ Some x → place < length xs
within [] place x h = absurd (none-some x h)
within (y ∷ ys) zero x h = omega arith
within (y ∷ ys) (suc place) x h = let k = within ys place x h in omega (arith, k)

pub next-place : {A : Type 0} (xs : List A) (place : ℕ) (x : A) → slice_get xs place ≡ Some x → length xs - (place + 1) < length xs - place
next-place xs place x h = let k = within xs place x h in omega (arith, k)

pub next-need : (later : List Need) (place : ℕ) (m : Need) → slice_get later place ≡ Some m → 3 * (length later - (place + 1)) + 2 < 3 * (length later - place) + 0
next-need later place m h = let k = within later place m h in omega (arith, k)

-- a line is named for a room
pub housed : (a : ℕ) → 3 * a + 1 < 3 * a + 2
housed a = omega arith

write-there : (x : Option Write) (n : LockNeed) → lock_of_write x ≡ Some n → (w : Write) × (x ≡ Some w)
write-there None n h = absurd (none-some n h)
write-there (Some w) n h = (w, refl)

-- ---- a lock is got

pub got-falls : (k s : ℕ) (c d : Beside) (left : List Item) (total : ℕ) (standing : Standing) (known : Held) (spoken waits : Bool) (stage : Stage) (n : LockNeed) → lock_of stage ≡ Some n →
    Falls k k c d s (session left total (Writing (writer standing known spoken waits stage))) (session left total (Writing (writer standing known spoken waits (got stage))))
got-falls k s c d left total standing known spoken waits Between n wants = absurd (none-some n wants)
got-falls k s c d left total standing known spoken waits (Working item OpeningIt) n wants = absurd (none-some n wants)
got-falls k s c d left total standing known spoken waits (Working item Due) n wants = absurd (none-some n wants)
got-falls k s c d left total standing known spoken waits (Working item Out) n wants = absurd (none-some n wants)
got-falls k s c d left total standing known spoken waits (Working item (Lacking m)) n wants = inr (refl, inr (refl, inr (refl, inr (refl, inl (omega arith, refl)))))
got-falls k s c d left total standing known spoken waits (Working item (Housing room key)) n wants = inr (refl, inr (refl, inr (refl, inr (refl, inl (omega arith, refl)))))
got-falls k s c d left total standing known spoken waits (Working item (Fetching m)) n wants = absurd (none-some n wants)
got-falls k s c d left total standing known spoken waits (Working item (Lodging room key)) n wants = absurd (none-some n wants)
got-falls k s c d left total standing known spoken waits (Gathering item (gather.Locking m) later place) n wants = inr (refl, inr (refl, inr (refl, inr (refl, inr (refl, inl (less (length later - place), refl))))))
  where
    less : (a : ℕ) → 3 * a + 0 < 3 * a + 2
    less a = omega arith
got-falls k s c d left total standing known spoken waits (Gathering item (gather.Housing room key) later place) n wants = inr (refl, inr (refl, inr (refl, inr (refl, inr (refl, inl (less (length later - place), refl))))))
  where
    less : (a : ℕ) → 3 * a + 0 < 3 * a + 1
    less a = omega arith
got-falls k s c d left total standing known spoken waits (Gathering item (gather.Reading m) later place) n wants = absurd (none-some n wants)
got-falls k s c d left total standing known spoken waits (Gathering item (gather.Lodging room key) later place) n wants = absurd (none-some n wants)
got-falls k s c d left total standing known spoken waits (Reserving item r locks place) n wants = inr (refl, inr (refl, inr (refl, inr (refl, inr (refl, inl (next-place locks place n wants, refl))))))
got-falls k s c d left total standing known spoken waits (Saying item r (Claiming place)) n wants =
    let w = write-there (slice_get r.writes place) n wants in
    inr (refl, inr (refl, inr (refl, inr (refl, inr (refl, inl (next-place r.writes place w.0 w.1, refl))))))
got-falls k s c d left total standing known spoken waits (Saying item r Changing) n wants = absurd (none-some n wants)
got-falls k s c d left total standing known spoken waits (Saying item r Broken) n wants = absurd (none-some n wants)
got-falls k s c d left total standing known spoken waits (Ending Preparing) n wants = absurd (none-some n wants)
got-falls k s c d left total standing known spoken waits (Ending Journal) n wants = inr (refl, inr (refl, inl (omega arith, refl)))
got-falls k s c d left total standing known spoken waits (Ending Ready) n wants = absurd (none-some n wants)
got-falls k s c d left total standing known spoken waits (Ending Committing) n wants = absurd (none-some n wants)
got-falls k s c d left total standing known spoken waits (Ending RollingBack) n wants = absurd (none-some n wants)
got-falls k s c d left total standing known spoken waits (Ending Leaving) n wants = absurd (none-some n wants)

-- ---- items that are taken up

pub taken-up : (item : Item) (left : List Item) → length left + 1 ≡ length (item ∷ left) + 0
taken-up item left = omega arith

-- ---- sums

same-length : (new old rest : List ℕ) → length new ≡ length old → length (sum_of new rest) ≡ length (sum_of old rest)
same-length [] [] rest e = refl
same-length [] (y ∷ ys) rest e = absurd (omega (arith, e))
same-length (x ∷ xs) [] rest e = absurd (omega (arith, e))
same-length (x ∷ xs) (y ∷ ys) [] e = refl
same-length (x ∷ xs) (y ∷ ys) (z ∷ zs) e = ap (λ (k : ℕ). suc k) (same-length xs ys zs (omega (arith, e)))

pub sums-fall : (new old rest : List ℕ) → length rest ≡ length new → Less new old → Less (sum_of new rest) (sum_of old rest)
sums-fall [] old rest e h = absurd h
sums-fall (x ∷ xs) [] rest e h = absurd h
sums-fall (x ∷ xs) (y ∷ ys) [] e h = absurd (omega (arith, e))
sums-fall (x ∷ xs) (y ∷ ys) (z ∷ zs) e (inl f) = let k = f.0 in inl (omega (arith, k), same-length xs ys zs f.1)
sums-fall (x ∷ xs) (y ∷ ys) (z ∷ zs) e (inr f) = inr (ap (λ (a : ℕ). a + z) f.0, sums-fall xs ys zs (omega (arith, e)) f.1)
