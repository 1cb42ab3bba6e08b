-- What a step adds to the account is of its session, with one answer at most.
use Rattle.std.proofs.Common.{◌≡◌, ◌≤◌, ℕ, ◌+◌, ◌++◌, ◌∷◌, [], List, refl, sym, subst, arith, map, Option, Some, None}
use Rattle.std.proofs.lemmas.List.{map-append}
use Rattle.rdb_types.specs.declared.node.Node.{Node}
use Rattle.lock_needs.specs.declared.need.Need.{Need}
use Rattle.lock_ties.specs.Ties.{wanted_at}
use Rattle.lock_tree.specs.declared.notice.Demotion.{Demotion}
use Rattle.rdb_account.specs.Events.{Event}
use Rattle.rdb_drive.specs.Boards.{Mark, AllOf, AllNobodys, answers}
use Rattle.line_account.specs.stage_steps.declared.happening.Asking.{Asking}
use Rattle.line_account.specs.stage_steps.declared.happening.Happening.{Happening}
use Rattle.line_account.specs.stage_steps.declared.happening.Happening.TheVariants.{Quiet, Began, Answered, Unstarted, Asleep, Noticed, Got, Refused, RefusedStart, Committed, BackedUp, RolledBack, Left, Failed, Unlaid, Unworked, Unanswered, Unsound}
use Rattle.line_account.specs.stage_steps.Happenings.{events_of, asked_by}
use Rattle.line_account.specs.stage_steps.Notices.{demoted_by}
use Rattle.line_cluster.specs.declared.behind.Notice.{Notice}
use Rattle.line_cluster.specs.Behind.{IsNoticed}
use Rattle.line_cluster.specs.Turned.{mark_of}

abbrev pub IsOf : ℕ → List Event → Type 0
IsOf s es = AllOf s (map mark_of es) × (answers (map mark_of es) ≤ 1)

pub all-append : (s : ℕ) (xs ys : List Mark) → AllOf s xs → AllOf s ys → AllOf s (xs ++ ys)
all-append s [] ys a b = b
all-append s (x ∷ xs) ys a b = (a.0, all-append s xs ys a.1 b)

pub answers-append : (xs ys : List Mark) → answers (xs ++ ys) ≡ answers xs + answers ys
answers-append [] ys = omega arith
answers-append (x ∷ xs) ys = let more = answers-append xs ys in omega (arith, more)

wanted-marks : (s : ℕ) (n : Need) (nodes : List Node) → AllOf s (map mark_of (wanted_at s n nodes)) × (answers (map mark_of (wanted_at s n nodes)) ≡ 0)
wanted-marks s n [] = (tt, refl)
wanted-marks s n (node ∷ nodes) = let more = wanted-marks s n nodes in let none = more.1 in ((refl, more.0), omega (arith, none))

asked-with : (s : ℕ) (x : Asking) (es : List Event) → IsOf s es → IsOf s (asked_by s x ++ es)
asked-with s x es of =
    let w = wanted-marks s x.need x.nodes in
    let e = map-append mark_of (asked_by s x) es in
    let sum = answers-append (map mark_of (asked_by s x)) (map mark_of es) in
    let none = w.1 in
    let few = of.1 in
    rw e (all-append s (map mark_of (asked_by s x)) (map mark_of es) w.0 of.0, omega (arith, sum, none, few))

asked-alone : (s : ℕ) (x : Asking) → IsOf s (asked_by s x)
asked-alone s x = let w = wanted-marks s x.need x.nodes in let none = w.1 in (w.0, omega (arith, none))

pub step-marks : (s : ℕ) (h : Happening) → IsOf s (events_of s h)
step-marks s Quiet = (tt, omega arith)
step-marks s (Began kind) = ((refl, tt), omega arith)
step-marks s (Answered a) = ((refl, tt), omega arith)
step-marks s (Unstarted a) = ((refl, (refl, tt)), omega arith)
step-marks s (Asleep t x) = asked-alone s x
step-marks s (Noticed t n mode x) = asked-alone s x
step-marks s (Got x) = asked-with s x _ ((refl, tt), omega arith)
step-marks s (Refused x a) = asked-with s x _ ((refl, tt), omega arith)
step-marks s (RefusedStart x a) = asked-with s x _ ((refl, (refl, tt)), omega arith)
step-marks s (Committed moment) = ((refl, (refl, tt)), omega arith)
step-marks s (BackedUp done moment) = ((refl, (refl, tt)), omega arith)
step-marks s RolledBack = ((refl, (refl, tt)), omega arith)
step-marks s Left = ((refl, tt), omega arith)
step-marks s (Failed fault) = (tt, omega arith)
step-marks s (Unlaid key) = (tt, omega arith)
step-marks s Unworked = (tt, omega arith)
step-marks s (Unanswered item) = (tt, omega arith)
step-marks s (Unsound key) = (tt, omega arith)

-- a lock that comes down is nobody's event
pub notice-marks : (t : ℕ) (node : Node) (d : Option Demotion) → AllNobodys (map mark_of (demoted_by t node d))
notice-marks t node None = tt
notice-marks t node (Some d) = (tt, tt)

-- a session whose want finds a notice due did nothing but ask
pub noticed-marks : (s : ℕ) (notice : Notice) (h : Happening) → IsNoticed notice h → AllOf s (map mark_of (events_of s h)) × (answers (map mark_of (events_of s h)) ≡ 0)
noticed-marks s notice h is =
    let x = is.asking in
    subst (λ (y : Happening). AllOf s (map mark_of (events_of s y)) × (answers (map mark_of (events_of s y)) ≡ 0)) (sym is.is) (wanted-marks s x.need x.nodes)
