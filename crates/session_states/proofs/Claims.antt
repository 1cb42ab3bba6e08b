-- The lines on which EX was got, as a stage comes to want and get the locks of more.
use Rattle.std.proofs.Common.{◌≡◌, ℕ, zero, suc, ◌+◌, ◌++◌, ◌∷◌, [], not, if◌then◌else◌, Bool, true, false, List, take, refl, ◌∙◌, sym, ap, subst, arith, Option, Some, is_some, slice_get}
use Rattle.std.specs.List.{list_any}
use Rattle.std.proofs.lemmas.Bool.{or_left, or_right, and_from}
use Rattle.std.proofs.lemmas.Option.{none-some, same_Some}
use Rattle.std.proofs.lemmas.List.Folds.{list_any-append}
use Rattle.rdb_types.specs.declared.keys.Dbkey.{Dbkey}
use Rattle.rdb_types.specs.declared.node.Node.{Node}
use Rattle.vms_queues.specs.declared.lock_mode.Mode.TheVariants.{EX}
use Rattle.lock_needs.specs.declared.need.Need.{Need}
use Rattle.lock_needs.specs.Nodes.{same_node}
use Rattle.lock_needs.proofs.NodeLaws.{same_node-refl}
use Rattle.line_view.specs.declared.writes.Write.{Write}
use Rattle.rdb_account.specs.Events.{Event, Got, need as lock}
use Rattle.rdb_account.specs.Places.{Opening, Place, Transaction, after, place_from, changed, with_need}
use Rattle.stepped_jobs.specs.kept_apart.Guards.{line_node}
use Rattle.line_store.specs.Shelves.{Shelf}
use Rattle.line_steps.specs.lock_ties.Ties.{wanted_at}
use Rattle.line_steps.proofs.of_lock_ties.Places.{at-same}
use Rattle.store_counts.specs.Counts.{written_of, is_on_line, is_claimed, AreClaimed}
use Rattle.store_counts.specs.Events.{CountNothing}
use Rattle.store_counts.proofs.Lines.{claimed-on}
use Rattle.store_counts.proofs.Places.{HasMore, more-same, claimed-more, events-stay, touched-on}
use Rattle.session_states.specs.declared.stage.Gather.TheVariants as gather
use Rattle.session_states.specs.declared.stage.Work.TheVariants.{Opening as OpeningIt, Due, Out, Lacking, Housing, Fetching, Lodging}
use Rattle.session_states.specs.declared.stage.Laying.TheVariants.{Claiming, Changing, Broken}
use Rattle.session_states.specs.declared.stage.End.TheVariants.{Preparing, Journal, Ready, Committing, RollingBack, Leaving}
use Rattle.session_states.specs.declared.stage.Stage.{Stage}
use Rattle.session_states.specs.declared.stage.Stage.TheVariants.{Between, Working, Gathering, Reserving, Saying, Ending}
use Rattle.session_states.specs.Locks.{lock_of}
use Rattle.session_states.specs.Turns.{got}
use Rattle.session_states.specs.Fits.{ClaimsFit}
use Rattle.session_states.proofs.Locking.{write-at}

-- where more was touched, and its transaction has more lines
pub claims-more : (p q : Place) (s : ℕ) → HasMore p.touched q.touched → HasMore (written_of (p.transaction s)) (written_of (q.transaction s)) → (stage : Stage) → ClaimsFit p s stage → ClaimsFit q s stage
claims-more p q s touched written Between h = tt
claims-more p q s touched written (Working item OpeningIt) h = tt
claims-more p q s touched written (Working item Due) h = tt
claims-more p q s touched written (Working item Out) h = tt
claims-more p q s touched written (Working item (Lacking n)) h = tt
claims-more p q s touched written (Working item (Housing room key)) h = tt
claims-more p q s touched written (Working item (Fetching n)) h = tt
claims-more p q s touched written (Working item (Lodging room key)) h = claimed-more p q s s touched written key h
claims-more p q s touched written (Gathering item (gather.Locking n) later place) h = tt
claims-more p q s touched written (Gathering item (gather.Housing room key) later place) h = tt
claims-more p q s touched written (Gathering item (gather.Reading n) later place) h = tt
claims-more p q s touched written (Gathering item (gather.Lodging room key) later place) h = claimed-more p q s s touched written key h
claims-more p q s touched written (Reserving item r locks place) h = tt
claims-more p q s touched written (Saying item r (Claiming place)) h = claimed-on p q s s (claimed-more p q s s touched written) (take place r.writes) h
claims-more p q s touched written (Saying item r Changing) h = tt
claims-more p q s touched written (Saying item r Broken) h = tt
claims-more p q s touched written (Ending end) h = tt

pub claims-stay : (h : Shelf) (o : Opening) (p : Place) (es : List Event) (s : ℕ) → CountNothing h es → is_some ((place_from o p es).transaction s) ≡ true → (stage : Stage) → ClaimsFit p s stage → ClaimsFit (place_from o p es) s stage
claims-stay h o p es s none is_open =
    let stay = events-stay h o p es none in
    claims-more p (place_from o p es) s (touched-on o p es) (more-same (written_of (p.transaction s)) (written_of ((place_from o p es).transaction s)) (sym (stay.written s is_open)))

-- ---- a lock is got

abbrev line_lock : Dbkey → Need
line_lock key = lock (line_node key) EX

got-there : (o : Opening) (q : Place) (s : ℕ) (y : Transaction) (n : Need) → q.transaction s ≡ Some y → (after o q (Got s n)).transaction s ≡ Some (with_need n y)
got-there o q s y n is_open = ap (λ (z : Option Transaction). (changed s (with_need n) z q).transaction s) is_open ∙ at-same s (Some (with_need n y)) q.transaction

on-last : (ns : List Node) (key : Dbkey) → is_on_line (ns ++ line_node key ∷ []) key ≡ true
on-last ns key =
    list_any-append (same_node (line_node key)) ns (line_node key ∷ [])
    ∙ or_right (is_on_line ns key) (is_on_line (line_node key ∷ []) key) (or_left (same_node (line_node key) (line_node key)) false (same_node-refl (line_node key)))

-- the line is among the transaction's
new-written : (ns : List Node) (key : Dbkey) (b : Bool) → is_on_line ns key ≡ b → is_on_line (if not b then ns ++ line_node key ∷ [] else ns) key ≡ true
new-written ns key true e = e
new-written ns key false e = on-last ns key

got-claimed : (o : Opening) (q : Place) (s : ℕ) (y : Transaction) (key : Dbkey) → q.transaction s ≡ Some y → is_claimed (after o q (Got s (line_lock key))) s key ≡ true
got-claimed o q s y key is_open =
    and_from (is_on_line (written_of ((after o q (Got s (line_lock key))).transaction s)) key) (is_on_line (q.touched ++ line_node key ∷ []) key)
    (subst (λ (z : Option Transaction). is_on_line (written_of z) key ≡ true) (sym (got-there o q s y (line_lock key) is_open)) (new-written y.written key (is_on_line y.written key) refl))
    (on-last q.touched key)

more-got : (o : Opening) (q : Place) (s : ℕ) (y : Transaction) (n : Need) → q.transaction s ≡ Some y → HasMore (written_of (q.transaction s)) (written_of ((after o q (Got s n)).transaction s))
more-got o q s y n is_open f h =
    subst (λ (z : Option Transaction). list_any f (written_of z) ≡ true) (sym (got-there o q s y n is_open)) (more f h)
  where
    more : (f : Node → Bool) → list_any f (written_of (q.transaction s)) ≡ true → list_any f (with_need n y).written ≡ true
    more f h = by (subst (λ (z : Option Transaction). list_any f (written_of z) ≡ true) is_open h)
      where
        grown : (b : Bool) → list_any f y.written ≡ true → list_any f (if b then y.written ++ n.node ∷ [] else y.written) ≡ true
        grown true k = list_any-append f y.written (n.node ∷ []) ∙ or_left (list_any f y.written) (list_any f (n.node ∷ [])) k
        grown false k = k

        by : list_any f y.written ≡ true → list_any f (with_need n y).written ≡ true
        by k = grown _ k

pub claimed-none : (p : Place) (s : ℕ) (ws : List Write) → AreClaimed p s (take 0 ws)
claimed-none p s [] = tt
claimed-none p s (w ∷ ws) = tt

claimed-take : (p : Place) (s : ℕ) (ws : List Write) (k : ℕ) (w : Write) → slice_get ws k ≡ Some w → is_claimed p s w.key ≡ true → AreClaimed p s (take k ws) → AreClaimed p s (take (suc k) ws)
claimed-take p s [] k w found may own = absurd (none-some w found)
claimed-take p s (v ∷ ws) zero w found may own = (subst (λ (u : Write). is_claimed p s u.key ≡ true) (sym (same_Some v w found)) may, claimed-none p s ws)
claimed-take p s (v ∷ ws) (suc k) w found may own = (own.0, claimed-take p s ws k w found may own.1)

-- the line of the lock is claimed, beside those before
pub claims-got : (o : Opening) (q : Place) (s : ℕ) (y : Transaction) (stage : Stage) (n : Need) → q.transaction s ≡ Some y → lock_of stage ≡ Some n → ClaimsFit q s stage → ClaimsFit (after o q (Got s n)) s (got stage)
claims-got o q s y Between n is_open wants h = tt
claims-got o q s y (Working item OpeningIt) n is_open wants h = tt
claims-got o q s y (Working item Due) n is_open wants h = tt
claims-got o q s y (Working item Out) n is_open wants h = tt
claims-got o q s y (Working item (Lacking m)) n is_open wants h = tt
claims-got o q s y (Working item (Housing room key)) n is_open wants h =
    subst (λ (m : Need). is_claimed (after o q (Got s m)) s key ≡ true) (same_Some (line_lock key) n wants) (got-claimed o q s y key is_open)
claims-got o q s y (Working item (Fetching m)) n is_open wants h = tt
claims-got o q s y (Working item (Lodging room key)) n is_open wants h = absurd (none-some n wants)
claims-got o q s y (Gathering item (gather.Locking m) later place) n is_open wants h = tt
claims-got o q s y (Gathering item (gather.Housing room key) later place) n is_open wants h =
    subst (λ (m : Need). is_claimed (after o q (Got s m)) s key ≡ true) (same_Some (line_lock key) n wants) (got-claimed o q s y key is_open)
claims-got o q s y (Gathering item (gather.Reading m) later place) n is_open wants h = tt
claims-got o q s y (Gathering item (gather.Lodging room key) later place) n is_open wants h = absurd (none-some n wants)
claims-got o q s y (Reserving item r locks place) n is_open wants h = tt
claims-got o q s y (Saying item r (Claiming place)) n is_open wants h =
    let at = write-at r.writes place n wants in
    subst (λ (k : ℕ). AreClaimed (after o q (Got s n)) s (take k r.writes)) (one place)
    (claimed-take (after o q (Got s n)) s r.writes place at.0 at.1
    (subst (λ (m : Need). is_claimed (after o q (Got s m)) s at.0.key ≡ true) at.2 (got-claimed o q s y at.0.key is_open))
    (claimed-on q (after o q (Got s n)) s s (claimed-more q (after o q (Got s n)) s s (touched-on o q (Got s n ∷ [])) (more-got o q s y n is_open)) (take place r.writes) h))
  where
    one : (k : ℕ) → suc k ≡ k + 1
    one k = omega arith
claims-got o q s y (Saying item r Changing) n is_open wants h = absurd (none-some n wants)
claims-got o q s y (Saying item r Broken) n is_open wants h = absurd (none-some n wants)
claims-got o q s y (Ending Preparing) n is_open wants h = tt
claims-got o q s y (Ending Journal) n is_open wants h = tt
claims-got o q s y (Ending Ready) n is_open wants h = tt
claims-got o q s y (Ending Committing) n is_open wants h = tt
claims-got o q s y (Ending RollingBack) n is_open wants h = tt
claims-got o q s y (Ending Leaving) n is_open wants h = tt

-- ---- the events of a call

pub wanted-nothing : (h : Shelf) (s : ℕ) (n : Need) (nodes : List Node) → CountNothing h (wanted_at s n nodes)
wanted-nothing h s n [] = tt
wanted-nothing h s n (node ∷ nodes) = (tt, wanted-nothing h s n nodes)

pub both-nothing : (x : Shelf) (es fs : List Event) → CountNothing x es → CountNothing x fs → CountNothing x (es ++ fs)
both-nothing x [] fs h k = k
both-nothing x (e ∷ es) fs h k = (h.0, both-nothing x es fs h.1 k)
