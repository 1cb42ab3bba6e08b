-- A store goes on being within the account's counts.
use Rattle.std.proofs.Common.{◌≡◌, ◌≤◌, ◌<◌, ℕ, ◌+◌, ◌++◌, ◌∷◌, [], ◌==◌, ◌||◌, not, cond, if◌then◌else◌, Bool, true, false, List, length, refl, ◌∙◌, sym, ap, subst, arith, Option, Some, None, is_some, ◌⊎◌, inl, inr}
use Rattle.std.specs.List.{list_any, filter}
use Rattle.std.specs.Ordering.{is_eq}
use Rattle.std.proofs.lemmas.Bool.{false≢true, or_cases, or_left, or_right, and_parts}
use Rattle.rdb_types.specs.declared.keys.Dbkey.{Dbkey}
use Rattle.rdb_types.specs.declared.keys.Limits.{Limits as OfStore}
use Rattle.rdb_types.specs.declared.node.Node.{Node}
use Rattle.rdb_types.specs.Order.{dbkey_order}
use Rattle.rdo_ast.specs.declared.reply.Standing.{Standing}
use Rattle.lock_needs.specs.declared.need.Need.{Need}
use Rattle.line_view.specs.declared.writes.Write.{Write}
use Rattle.line_view.specs.Knowledge.{Lines, line_in, laid}
use Rattle.line_view.specs.Writes.{laid_all}
use Rattle.line_view.proofs.FullMap.{laid_found}
use Rattle.rdb_account.specs.Events.{Event, Began, Got}
use Rattle.rdb_account.specs.Places.{Opening, Place, Transaction, Limits, after, place_from, start, at, begun, changed, with_need, pairs_with, is_new_write, is_line}
use Rattle.rdb_account.specs.Lawful.{is_taken, is_space_page, file_of}
use Rattle.line_store.specs.Seats.{Seat, IsMember, writes_of, set_aside, lines_added, is_written}
use Rattle.line_store.specs.Shelves.{Shelf}
use Rattle.line_store.specs.Calls.{KeepsOthers, KeepsSpace, Changes, Commits}
use Rattle.lock_ties.proofs.Places.{at-same, at-other, number}
use Rattle.store_counts.specs.Counts.{written_of, has_wanted, is_on_line, AreClaimed, is_laid, unlaid, AreLimits, IsCounted, IsCountedFrom, TakesAt}
use Rattle.store_counts.proofs.Filters.{passes-most}
use Rattle.store_counts.proofs.Sums.{sum-less, sum-more, sum-fewer}
use Rattle.store_counts.proofs.Lines.{claimed-key, claimed-added, claimed-on, fewer-left, written-within}
use Rattle.store_counts.proofs.Places.{HasMore, more-same, more-behind, taken-on, touched-taken, claimed-more, CountsStay, events-stay}
use Rattle.store_counts.specs.Events.{CountNothing}

-- ---- limits

limits-on : (root : Limits) (old new : OfStore) → new ≡ old → AreLimits root old → AreLimits root new
limits-on root old new e h = subst (λ (l : OfStore). AreLimits root l) (sym e) h

-- ---- the store moves

-- for whom the store has slots set aside, its transaction has wanted the journal
abbrev pub WantsIfAside : Place → Shelf → ℕ → Type 0
WantsIfAside p h t = 0 < set_aside (h.seat t) → has_wanted (p.transaction t) ≡ true

-- where the store has the same writes of all whose transactions are open
pub counted-moves : (o : Opening) (p : Place) (h k : Shelf) → IsCounted o p h → k.now ≡ h.now → KeepsSpace h.space k.space → ((t : ℕ) → is_some (p.transaction t) ≡ true → writes_of (k.seat t) ≡ writes_of (h.seat t)) → ((t : ℕ) → WantsIfAside p k t) → IsCounted o p k
counted-moves o p h k c now space same wants =
    let less = sum-less (λ t. unlaid (p.transaction t) (h.seat t)) (λ t. unlaid (p.transaction t) (k.seat t)) (λ t. part t (p.transaction t) refl) in
    let snaps = space.snaps in
    let pairs = c.pairs in
    let slots = space.slots in
    let used = c.slots in
    record {
      limits = limits-on o.limits h.space.limits k.space.limits space.limits c.limits;
      taken = λ file page e. c.taken file page (sym (space.taken file page) ∙ e);
      lines = λ key e. c.lines key (ap (λ (l : Lines). is_some (line_in key l)) (sym now) ∙ e);
      pairs = omega (arith, less, snaps, pairs);
      slots = omega (arith, slots, used);
      wants = wants;
      claimed = λ t is_open. subst (AreClaimed p t) (sym (same t is_open)) (c.claimed t is_open);
    }
  where
    equal : (t : ℕ) → writes_of (k.seat t) ≡ writes_of (h.seat t) → unlaid (p.transaction t) (k.seat t) ≤ unlaid (p.transaction t) (h.seat t)
    equal t e = let f = ap (λ (ws : List Write). length (filter (λ n. not (is_laid ws n)) (written_of (p.transaction t)))) e in omega (arith, f)

    part : (t : ℕ) (x : Option Transaction) → p.transaction t ≡ x → unlaid (p.transaction t) (k.seat t) ≤ unlaid (p.transaction t) (h.seat t)
    part t (Some x) e = equal t (same t (ap is_some e))
    part t None e = none t (ap written_of e)
      where
        none : (t : ℕ) → written_of (p.transaction t) ≡ [] → unlaid (p.transaction t) (k.seat t) ≤ unlaid (p.transaction t) (h.seat t)
        none t e =
            let a = ap (λ (ns : List Node). length (filter (λ n. not (is_laid (writes_of (k.seat t)) n)) ns)) e in
            omega (arith, a)

-- of others nothing changes, and of s what is said
pub writes-same : (p : Place) (h k : Shelf) (s : ℕ) → KeepsOthers s h k → (is_some (p.transaction s) ≡ true → writes_of (k.seat s) ≡ writes_of (h.seat s)) → (t : ℕ) → is_some (p.transaction t) ≡ true → writes_of (k.seat t) ≡ writes_of (h.seat t)
writes-same p h k s others mine t is_open = by (t == s) refl
  where
    by : (b : Bool) → (t == s) ≡ b → writes_of (k.seat t) ≡ writes_of (h.seat t)
    by true e = subst (λ (u : ℕ). writes_of (k.seat u) ≡ writes_of (h.seat u)) (sym (number t s e)) (mine (subst (λ (u : ℕ). is_some (p.transaction u) ≡ true) (number t s e) is_open))
    by false e = ap writes_of (others.seat t e)

wants-same : (p : Place) (h k : Shelf) (s : ℕ) → ((t : ℕ) → WantsIfAside p h t) → KeepsOthers s h k → WantsIfAside p k s → (t : ℕ) → WantsIfAside p k t
wants-same p h k s was others mine t = by (t == s) refl
  where
    by : (b : Bool) → (t == s) ≡ b → WantsIfAside p k t
    by true e = subst (λ (u : ℕ). WantsIfAside p k u) (sym (number t s e)) mine
    by false e = subst (λ (seat : Seat). 0 < set_aside seat → has_wanted (p.transaction t) ≡ true) (sym (others.seat t e)) (was t)

-- as it was of a seat for which no more is set aside
pub wants-still : (o : Opening) (p : Place) (s : ℕ) (h k : Shelf) → IsCounted o p h → set_aside (k.seat s) ≤ set_aside (h.seat s) → WantsIfAside p k s
wants-still o p s h k c fewer aside = c.wants s (omega (arith, fewer, aside))

pub counted-on : (o : Opening) (p : Place) (s : ℕ) (h k : Shelf) → IsCounted o p h → KeepsOthers s h k → k.now ≡ h.now → KeepsSpace h.space k.space → (is_some (p.transaction s) ≡ true → writes_of (k.seat s) ≡ writes_of (h.seat s)) → (0 < set_aside (k.seat s) → has_wanted (p.transaction s) ≡ true) → IsCounted o p k
counted-on o p s h k c others now space mine wants = counted-moves o p h k c now space (writes-same p h k s others mine) (wants-same p h k s c.wants others wants)

-- the seat of s stays too
pub counted-same : (o : Opening) (p : Place) (s : ℕ) (h k : Shelf) → IsCounted o p h → KeepsOthers s h k → k.now ≡ h.now → KeepsSpace h.space k.space → k.seat s ≡ h.seat s → IsCounted o p k
counted-same o p s h k c others now space mine = counted-on o p s h k c others now space (λ e. ap writes_of mine) (λ aside. c.wants s (subst (λ (x : Seat). 0 < set_aside x) mine aside))

-- ---- events that count nothing

pub counted-stays : (o : Opening) (p q : Place) (h : Shelf) → CountsStay h p q → IsCounted o p h → IsCounted o q h
counted-stays o p q h stay c =
    let less = sum-less (λ t. unlaid (p.transaction t) (h.seat t)) (λ t. unlaid (q.transaction t) (h.seat t)) (λ t. part t (q.transaction t) refl) in
    let pairs = c.pairs in
    let same = stay.pairs in
    let slots = c.slots in
    let used = stay.slots in
    let touched : HasMore p.touched q.touched = more-same p.touched q.touched (sym stay.touched) in
    record {
      limits = c.limits;
      taken = λ file page e. taken-on o p q touched file page (c.taken file page e);
      lines = λ key e. taken-on o p q touched (file_of key.area) key.page (c.lines key e);
      pairs = omega (arith, less, pairs, same);
      slots = omega (arith, slots, used);
      wants = λ t aside. stay.wants t aside (c.wants t aside);
      claimed = λ t is_open. claimed-on p q t t (claimed-more p q t t touched (more-same (written_of (p.transaction t)) (written_of (q.transaction t)) (sym (stay.written t is_open))))
          (writes_of (h.seat t)) (c.claimed t (stay.open_still t is_open));
    }
  where
    left : ℕ → List Node → ℕ
    left t ns = length (filter (λ n. not (is_laid (writes_of (h.seat t)) n)) ns)

    part : (t : ℕ) (x : Option Transaction) → q.transaction t ≡ x → unlaid (q.transaction t) (h.seat t) ≤ unlaid (p.transaction t) (h.seat t)
    part t (Some x) e = let f = ap (left t) (stay.written t (ap is_some e)) in omega (arith, f)
    part t None e = let f = ap (left t) (ap written_of e) in omega (arith, f)

pub counted-events : (o : Opening) (p : Place) (es : List Event) (h : Shelf) → CountNothing h es → IsCounted o p h → IsCounted o (place_from o p es) h
counted-events o p es h none c = counted-stays o p (place_from o p es) h (events-stay h o p es none) c

-- ---- a transaction begins

pub counted-begins : (o : Opening) (p : Place) (s : ℕ) (kind : Standing) (h : Shelf) → p.transaction s ≡ None → writes_of (h.seat s) ≡ [] → IsCounted o p h → IsCounted o (after o p (Began s kind)) h
counted-begins o p s kind h none empty c =
    let q : Place = after o p (Began s kind) in
    let less = sum-less (λ t. unlaid (p.transaction t) (h.seat t)) (λ t. unlaid (q.transaction t) (h.seat t)) (λ t. part t (t == s) refl) in
    let pairs = c.pairs in
    record {
      limits = c.limits;
      taken = c.taken;
      lines = c.lines;
      pairs = omega (arith, less, pairs);
      slots = c.slots;
      wants = λ t aside. wanted t (t == s) refl (c.wants t aside);
      claimed = λ t is_open. claims t (t == s) refl is_open;
    }
  where
    new : Option Transaction
    new = Some (begun kind p.tables)

    left : ℕ → List Node → ℕ
    left t ns = length (filter (λ n. not (is_laid (writes_of (h.seat t)) n)) ns)

    part : (t : ℕ) (b : Bool) → (t == s) ≡ b → unlaid (at s new p.transaction t) (h.seat t) ≤ unlaid (p.transaction t) (h.seat t)
    part t true e =
        let f = ap (left t) (ap written_of (subst (λ (u : ℕ). at s new p.transaction u ≡ new) (sym (number t s e)) (at-same s new p.transaction))) in omega (arith, f)
    part t false e = let f = ap (left t) (ap written_of (at-other s t new p.transaction e)) in omega (arith, f)

    wanted : (t : ℕ) (b : Bool) → (t == s) ≡ b → has_wanted (p.transaction t) ≡ true → has_wanted (at s new p.transaction t) ≡ true
    wanted t true e was = absurd (false≢true (sym (ap has_wanted (subst (λ (u : ℕ). p.transaction u ≡ None) (sym (number t s e)) none)) ∙ was))
    wanted t false e was = ap has_wanted (at-other s t new p.transaction e) ∙ was

    claims : (t : ℕ) (b : Bool) → (t == s) ≡ b → is_some (at s new p.transaction t) ≡ true → AreClaimed (after o p (Began s kind)) t (writes_of (h.seat t))
    claims t true e is_open = subst (AreClaimed (after o p (Began s kind)) t) (sym (subst (λ (u : ℕ). writes_of (h.seat u) ≡ []) (sym (number t s e)) empty)) tt
    claims t false e is_open =
        claimed-on p (after o p (Began s kind)) t t
        (claimed-more p (after o p (Began s kind)) t t (more-same p.touched p.touched refl) (more-same (written_of (p.transaction t)) (written_of (at s new p.transaction t)) (sym (ap written_of (at-other s t new p.transaction e)))))
        (writes_of (h.seat t)) (c.claimed t (ap is_some (sym (at-other s t new p.transaction e)) ∙ is_open))

-- ---- a need is got

lines-more : (n : Need) (ws : List Node) (b : Bool) → HasMore ws (if b then ws ++ n.node ∷ [] else ws)
lines-more n ws true = more-behind ws (n.node ∷ [])
lines-more n ws false = more-same ws ws refl

one-left : {A : Type 0} (x : A) (ys zs : List A) → length ys ≤ length zs + 1 → (b : Bool) → length (cond b (x ∷ ys) ys) ≤ length (cond b (x ∷ zs) zs) + 1
one-left x ys zs h true = omega (arith, h)
one-left x ys zs h false = h

left-more : (f : Node → Bool) (ws : List Node) (m : Node) → length (filter f (ws ++ m ∷ [])) ≤ length (filter f ws) + 1
left-more f [] m = let h = passes-most f (m ∷ []) in omega (arith, h)
left-more f (w ∷ ws) m = one-left w (filter f (ws ++ m ∷ [])) (filter f ws) (left-more f ws m) (f w)

left-with : (f : Node → Bool) (n : Need) (ws : List Node) (b : Bool) → length (filter f (if b then ws ++ n.node ∷ [] else ws)) ≤ length (filter f ws) + (if b then 1 else 0)
left-with f n ws true = left-more f ws n.node
left-with f n ws false = omega arith

pub counted-gets : (o : Opening) (p : Place) (s : ℕ) (x : Transaction) (n : Need) (h : Shelf) → p.transaction s ≡ Some x → IsCounted o p h → IsCounted o (after o p (Got s n)) h
counted-gets o p s x n h is_open c =
    let q : Place = after o p (Got s n) in
    let more = sum-more (λ t. unlaid (p.transaction t) (h.seat t)) (λ t. unlaid (q.transaction t) (h.seat t)) s (pairs_with n (p.transaction s)) (λ t e. other t e) mine in
    let pairs = c.pairs in
    record {
      limits = c.limits;
      taken = λ file page e. taken-on o p q touched file page (c.taken file page e);
      lines = λ key e. taken-on o p q touched (file_of key.area) key.page (c.lines key e);
      pairs = omega (arith, more, pairs);
      slots = subst (λ (k : ℕ). h.space.slots ≤ k) (sym slots_same) c.slots;
      wants = λ t aside. wanted t (t == s) refl (c.wants t aside);
      claimed = λ t has. claims t (t == s) refl has;
    }
  where
    there : (after o p (Got s n)).transaction ≡ at s (Some (with_need n x)) p.transaction
    there = ap (λ (z : Option Transaction). (changed s (with_need n) z p).transaction) is_open

    slots_same : (after o p (Got s n)).slots ≡ p.slots
    slots_same = ap (λ (z : Option Transaction). (changed s (with_need n) z p).slots) is_open

    touched : HasMore p.touched (after o p (Got s n)).touched
    touched = by (is_line n.node.level)
      where
        by : (b : Bool) → HasMore p.touched (if b then p.touched ++ n.node ∷ [] else p.touched)
        by true = more-behind p.touched (n.node ∷ [])
        by false = more-same p.touched p.touched refl

    left : ℕ → List Node → ℕ
    left t ns = length (filter (λ m. not (is_laid (writes_of (h.seat t)) m)) ns)

    at-t : (t : ℕ) → (t == s) ≡ false → (after o p (Got s n)).transaction t ≡ p.transaction t
    at-t t e = ap (λ (f : ℕ → Option Transaction). f t) there ∙ at-other s t (Some (with_need n x)) p.transaction e

    at-s : (after o p (Got s n)).transaction s ≡ Some (with_need n x)
    at-s = ap (λ (f : ℕ → Option Transaction). f s) there ∙ at-same s (Some (with_need n x)) p.transaction

    wanted : (t : ℕ) (b : Bool) → (t == s) ≡ b → has_wanted (p.transaction t) ≡ true → has_wanted ((after o p (Got s n)).transaction t) ≡ true
    wanted t true e was =
        subst (λ (u : ℕ). has_wanted ((after o p (Got s n)).transaction u) ≡ true) (sym (number t s e))
        (ap has_wanted at-s ∙ (sym (ap has_wanted is_open) ∙ subst (λ (u : ℕ). has_wanted (p.transaction u) ≡ true) (number t s e) was))
    wanted t false e was = ap has_wanted (at-t t e) ∙ was

    other : (t : ℕ) → (t == s) ≡ false → unlaid ((after o p (Got s n)).transaction t) (h.seat t) ≤ unlaid (p.transaction t) (h.seat t)
    other t e = let f = ap (left t) (ap written_of (at-t t e)) in omega (arith, f)

    mine : unlaid ((after o p (Got s n)).transaction s) (h.seat s) ≤ unlaid (p.transaction s) (h.seat s) + pairs_with n (p.transaction s)
    mine =
        let a = ap (left s) (ap written_of at-s) in
        let b = ap (left s) (ap written_of is_open) in
        let d = ap (pairs_with n) is_open in
        let e = left-with (λ m. not (is_laid (writes_of (h.seat s)) m)) n x.written (is_new_write n x.written) in
        omega (arith, a, b, d, e)

    claims : (t : ℕ) (b : Bool) → (t == s) ≡ b → is_some ((after o p (Got s n)).transaction t) ≡ true → AreClaimed (after o p (Got s n)) t (writes_of (h.seat t))
    claims t true e has =
        claimed-on p (after o p (Got s n)) t t
        (claimed-more p (after o p (Got s n)) t t touched
        (subst (λ (u : ℕ). HasMore (written_of (p.transaction u)) (written_of ((after o p (Got s n)).transaction u))) (sym (number t s e))
        (λ f k. subst (λ (ws : List Node). list_any f ws ≡ true) (sym (ap written_of at-s)) (lines-more n x.written (is_new_write n x.written) f (subst (λ (ws : List Node). list_any f ws ≡ true) (ap written_of is_open) k)))))
        (writes_of (h.seat t)) (c.claimed t (subst (λ (u : ℕ). is_some (p.transaction u) ≡ true) (sym (number t s e)) (ap is_some is_open)))
    claims t false e has =
        claimed-on p (after o p (Got s n)) t t
        (claimed-more p (after o p (Got s n)) t t touched (more-same (written_of (p.transaction t)) (written_of ((after o p (Got s n)).transaction t)) (sym (ap written_of (at-t t e)))))
        (writes_of (h.seat t)) (c.claimed t (ap is_some (sym (at-t t e)) ∙ has))

-- ---- a statement's writes are laid

pub counted-changes : (o : Opening) (p : Place) (s : ℕ) (x : Transaction) (more : List Write) (h k : Shelf) → p.transaction s ≡ Some x → IsMember s → AreClaimed p s more → Changes s more h k → IsCounted o p h → IsCounted o p k
counted-changes o p s x more h k is_open member own ch c =
    let was = c.claimed s (ap is_some is_open) in
    let fewer = sum-fewer (λ t. unlaid (p.transaction t) (h.seat t)) (λ t. unlaid (p.transaction t) (k.seat t)) s (lines_added (writes_of (h.seat s)) more) member (λ t e. other t e) mine in
    let snaps = ch.space.snaps in
    let pairs = c.pairs in
    let slots = ch.space.slots in
    let used = c.slots in
    record {
      limits = limits-on o.limits h.space.limits k.space.limits ch.space.limits c.limits;
      taken = λ file page e. c.taken file page (sym (ch.space.taken file page) ∙ e);
      lines = λ key e. c.lines key (ap (λ (l : Lines). is_some (line_in key l)) (sym ch.now) ∙ e);
      pairs = omega (arith, fewer, snaps, pairs);
      slots = omega (arith, slots, used);
      wants = wants-same p h k s c.wants ch.others (λ aside. absurd (none-aside aside));
      claimed = λ t has. claims t (t == s) refl has;
    }
  where
    none-aside : 0 < set_aside (k.seat s) → ⊥
    none-aside aside = let e = ap set_aside ch.mine in omega (arith, e, aside)

    left : ℕ → List Write → ℕ
    left t ws = length (filter (λ n. not (is_laid ws n)) (written_of (p.transaction t)))

    other : (t : ℕ) → (t == s) ≡ false → unlaid (p.transaction t) (k.seat t) ≤ unlaid (p.transaction t) (h.seat t)
    other t e = let f = ap (λ (seat : Seat). left t (writes_of seat)) (ch.others.seat t e) in omega (arith, f)

    mine : unlaid (p.transaction s) (k.seat s) + lines_added (writes_of (h.seat s)) more ≤ unlaid (p.transaction s) (h.seat s)
    mine =
        let f = ap (λ (seat : Seat). left s (writes_of seat)) ch.mine in
        let g = fewer-left p s more (writes_of (h.seat s)) ch.behind ch.adds own in
        omega (arith, f, g)

    claims : (t : ℕ) (b : Bool) → (t == s) ≡ b → is_some (p.transaction t) ≡ true → AreClaimed p t (writes_of (k.seat t))
    claims t true e has =
        subst (λ (u : ℕ). AreClaimed p u (writes_of (k.seat u))) (sym (number t s e))
        (subst (λ (seat : Seat). AreClaimed p s (writes_of seat)) (sym ch.mine) (claimed-added p s more (writes_of (h.seat s)) ch.behind ch.adds (c.claimed s (ap is_some is_open)) own))
    claims t false e has = subst (λ (seat : Seat). AreClaimed p t (writes_of seat)) (sym (ch.others.seat t e)) (c.claimed t has)

-- ---- a commit

-- a line that is present behind writes is written, or was present before
pub laid-found : (key : Dbkey) (ws : List Write) (lines : Lines) → is_some (line_in key (laid_all ws lines)) ≡ true → (is_written key ws || is_some (line_in key lines)) ≡ true
laid-found key [] lines h = h
laid-found key (w ∷ ws) lines h =
    by (is_eq (dbkey_order key w.key)) (is_written key ws) (is_some (line_in key (laid w.key w.image lines))) (is_some (line_in key lines)) (laid-found key ws (laid w.key w.image lines) h)
    (λ e. ap is_some (laid_found key w.key w.image lines ∙ ap (λ b. cond b w.image (line_in key lines)) e))
  where
    by : (a b d f : Bool) → (b || d) ≡ true → (a ≡ false → d ≡ f) → ((a || b) || f) ≡ true
    by true b d f h k = refl
    by false true d f h k = refl
    by false false d f h k = sym (k refl) ∙ h

-- The writes of s become part of the committed lines, and its transaction ends.
pub counted-commits : (o : Opening) (p q : Place) (s : ℕ) (x : Transaction) (ws : List Write) (seat : Seat) (moment : ℕ) (h k : Shelf) → p.transaction s ≡ Some x → ws ≡ writes_of (h.seat s) → Commits s ws seat moment h k →
    set_aside seat ≡ 0 → ((t : ℕ) → q.transaction t ≡ at s None p.transaction t) → q.touched ≡ p.touched → q.pairs ≡ p.pairs → q.slots ≡ p.slots + (1 + length x.written) → IsCounted o p h → IsCounted o q k
counted-commits o p q s x ws seat moment h k is_open are co idle gone touched pairs slots c =
    let more : HasMore p.touched q.touched = more-same p.touched q.touched (sym touched) in
    let less = sum-less (λ t. unlaid (p.transaction t) (h.seat t)) (λ t. unlaid (q.transaction t) (k.seat t)) (λ t. part t (t == s) refl) in
    let snaps = co.space.snaps in
    let was = c.pairs in
    let used = co.space.slots in
    let had = c.slots in
    let within = written-within p s [] ws own tt in
    let lines = ap (λ (y : Option Transaction). length (written_of y)) is_open in
    record {
      limits = limits-on o.limits h.space.limits k.space.limits co.space.limits c.limits;
      taken = λ file page e. taken-on o p q more file page (c.taken file page (sym (co.space.taken file page) ∙ e));
      lines = λ key e. taken-on o p q more (file_of key.area) key.page (on-page key (laid-found key ws h.now (ap (λ (l : Lines). is_some (line_in key l)) (sym co.now) ∙ e)));
      pairs = omega (arith, less, snaps, was, pairs);
      slots = omega (arith, used, had, within, lines, slots);
      wants = λ t aside. wanted t (t == s) refl aside;
      claimed = λ t has. claims t (t == s) refl has;
    }
  where
    own : AreClaimed p s ws
    own = subst (AreClaimed p s) (sym are) (c.claimed s (ap is_some is_open))

    on-page : (key : Dbkey) → (is_written key ws || is_some (line_in key h.now)) ≡ true → is_taken o p (file_of key.area) key.page ≡ true
    on-page key e = elim (or_cases (is_written key ws) (is_some (line_in key h.now)) e) [
      | inl w ↦ touched-taken o p key (and_parts (is_on_line (written_of (p.transaction s)) key) (is_on_line p.touched key) (claimed-key p s ws key own w)).1
      | inr l ↦ c.lines key l
    ]

    none : (t : ℕ) → (t == s) ≡ true → q.transaction t ≡ None
    none t e = gone t ∙ subst (λ (u : ℕ). at s None p.transaction u ≡ None) (sym (number t s e)) (at-same s None p.transaction)

    same : (t : ℕ) → (t == s) ≡ false → q.transaction t ≡ p.transaction t
    same t e = gone t ∙ at-other s t None p.transaction e

    none-aside : 0 < set_aside (k.seat s) → ⊥
    none-aside aside = let e = ap set_aside co.mine in omega (arith, e, idle, aside)

    wanted : (t : ℕ) (b : Bool) → (t == s) ≡ b → 0 < set_aside (k.seat t) → has_wanted (q.transaction t) ≡ true
    wanted t true e aside = absurd (none-aside (subst (λ (u : ℕ). 0 < set_aside (k.seat u)) (number t s e) aside))
    wanted t false e aside = ap has_wanted (same t e) ∙ c.wants t (subst (λ (x : Seat). 0 < set_aside x) (co.others.seat t e) aside)

    left : List Node → List Write → ℕ
    left ns vs = length (filter (λ n. not (is_laid vs n)) ns)

    part : (t : ℕ) (b : Bool) → (t == s) ≡ b → unlaid (q.transaction t) (k.seat t) ≤ unlaid (p.transaction t) (h.seat t)
    part t true e = let f = ap (λ (y : Option Transaction). left (written_of y) (writes_of (k.seat t))) (none t e) in omega (arith, f)
    part t false e =
        let f = ap (λ (y : Option Transaction). left (written_of y) (writes_of (k.seat t))) (same t e) in
        let g = ap (λ (y : Seat). left (written_of (p.transaction t)) (writes_of y)) (co.others.seat t e) in
        omega (arith, f, g)

    claims : (t : ℕ) (b : Bool) → (t == s) ≡ b → is_some (q.transaction t) ≡ true → AreClaimed q t (writes_of (k.seat t))
    claims t true e has = absurd (false≢true (sym (ap is_some (none t e)) ∙ has))
    claims t false e has =
        claimed-on p q t t (claimed-more p q t t (more-same p.touched q.touched (sym touched)) (more-same (written_of (p.transaction t)) (written_of (q.transaction t)) (sym (ap written_of (same t e)))))
        (writes_of (k.seat t)) (subst (λ (y : Seat). AreClaimed p t (writes_of y)) (sym (co.others.seat t e)) (c.claimed t (ap is_some (sym (same t e)) ∙ has)))

-- ---- a room's page is taken

pub counted-takes : (o : Opening) (p : Place) (s : ℕ) (key : Dbkey) (h k : Shelf) → is_on_line p.touched key ≡ true → IsCounted o p h → KeepsOthers s h k → k.now ≡ h.now → k.seat s ≡ h.seat s → TakesAt key h.space k.space → IsCounted o p k
counted-takes o p s key h k touched c others now mine takes =
    let mid : Shelf = record k { space = h.space } in
    let a : IsCounted o p mid = counted-moves o p h mid c now (record { limits = refl; taken = λ file page. refl; snaps = omega arith; slots = omega arith }) (writes-same p h k s others (λ e. ap writes_of mine)) (wants-same p h k s c.wants others (λ aside. c.wants s (subst (λ (x : Seat). 0 < set_aside x) mine aside))) in
    let snaps = takes.snaps in
    let pairs = a.pairs in
    let slots = takes.slots in
    let used = a.slots in
    record {
      limits = limits-on o.limits h.space.limits k.space.limits takes.limits a.limits;
      taken = λ file page e. on-page file page (takes.taken file page e);
      lines = a.lines;
      pairs = omega (arith, snaps, pairs);
      slots = omega (arith, slots, used);
      wants = a.wants;
      claimed = a.claimed;
    }
  where
    on-page : (file page : ℕ) → (h.space.taken file page ≡ true) ⊎ ((file ≡ file_of key.area) × (page ≡ key.page)) → is_taken o p file page ≡ true
    on-page file page (inl e) = c.taken file page e
    on-page file page (inr e) = subst (λ (f : ℕ). is_taken o p f page ≡ true) (sym e.0) (subst (λ (g : ℕ). is_taken o p (file_of key.area) g ≡ true) (sym e.1) (touched-taken o p key touched))

-- ---- at the opening

pub counted-start : (o : Opening) (h : Shelf) → IsCountedFrom o h → IsCounted o (start o) h
counted-start o h from =
    let none = sum-less (λ t. 0) (λ t. unlaid ((start o).transaction t) (h.seat t)) (λ t. omega arith) in
    let snaps = from.snaps in
    record {
      limits = from.limits;
      taken = λ file page e. owned page (o.has_owner file page) (from.taken file page e);
      lines = λ key e. owned key.page (o.has_owner (file_of key.area) key.page) (from.lines key e);
      pairs = omega (arith, none, snaps);
      slots = from.slots;
      wants = λ t aside. absurd (none-aside t (from.idle t) aside);
      claimed = λ t has. absurd (false≢true has);
    }
  where
    none-aside : (t : ℕ) → set_aside (h.seat t) ≡ 0 → 0 < set_aside (h.seat t) → ⊥
    none-aside t e aside = omega (arith, e, aside)

    owned : (page : ℕ) (b : Bool) → b ≡ true → (is_space_page page || (b || false)) ≡ true
    owned page b h = or_right (is_space_page page) (b || false) (or_left b false h)
