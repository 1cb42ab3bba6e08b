-- What a member's own calls make of its seat.
use Rattle.std.proofs.Common.{◌≡◌, ◌≢◌, ℕ, ◌≤◌, IsTrue, List, [], ◌∷◌, ◌++◌, Some, None, slice_get, ⊎_elim, ap, sym, subst, ◌∙◌, arith}
use Rattle.rdb_outside.specs.Disk.{View}
use Rattle.rdb_types.specs.declared.keys.Dbkey.{Dbkey}
use Rattle.line_opening.specs.stable_lines.Slots.{ruj_file, named, Undo}
use Rattle.line_opening.specs.stable_lines.Image.{IsNoneOf}
use Rattle.line_opening.specs.stable_lines.Progress.{Open, Progress}
use Rattle.line_opening.proofs.of_stable_lines.Turns.{some_same}
use Rattle.line_opening.proofs.of_stable_lines.Lists.{got_either, got_one}
use Rattle.line_opening.specs.line_moves.Calls.{OnlyWrites}
use Rattle.line_opening.proofs.of_line_moves.Putting.{nat_cases}
use Rattle.line_seat.specs.Seats.{MayChange, SeatFacts}
use Rattle.disk_seats.specs.Ledgers.{Standing, resting, changing, broken, committing, undoing, entries_of, Commit, Ledger, progress_of, set_standing}
use Rattle.disk_seats.specs.Members.{IsChanging, MemberStands, LedgerFacts, AreApart, IsLeftTo}
use Rattle.disk_seats.proofs.Standings.{apart_set}
use Rattle.disk_seats.proofs.Progresses.{same_going, same_limits, free_now}

-- where a member stands, so does it
pub stands_so : (v : View) (g : Ledger) → LedgerFacts v g → (member : ℕ) (st : Standing) → g.standing member ≡ st → MemberStands v g.base member st
stands_so v g was member st is = subst (λ (s : Standing). MemberStands v g.base member s) is (was.member member)

-- the transaction of a seat is the one that is open
pub seat_of : (v : View) (base : Progress) (member : ℕ) (o : Open) (all : List Undo) (n : ℕ) → base.going member ≡ Some o → IsChanging v base member all n → SeatFacts v base member o all n
seat_of v base member o all n is was = subst (λ (p : Open). SeatFacts v base member p all n) (some_same was.transaction o (sym was.seat.is_open ∙ is)) was.seat

-- a header is written before the first entry
pub own_header : (v w : View) (base : Progress) (member : ℕ) (o : Open) → IsTrue v.tells → OnlyWrites (ruj_file member) 0 v w → SeatFacts v base member o [] 0 → SeatFacts w base member o [] 0
own_header v w base member o t rest was = record {
  is_open = was.is_open;
  none_stands = was.none_stands;
  counted = was.counted;
  written = record {
    rest = was.written.rest;
    front = was.written.front;
    written = λ slot x e one q read tsn. was.written.written slot x e one (rest.pending t (ruj_file member) slot x (λ same at. let zero : slot ≡ 0 = at in omega (arith, one, zero)) q) read tsn;
    distinct = was.written.distinct;
  };
  not_flying = was.not_flying;
  names = λ some. absurd (omega (arith, some));
  stand = λ i undo got. absurd (nothing i undo got);
  headed = λ h one q. absurd (omega (arith, one));
  sure = λ i undo x lt got q. absurd (omega (arith, lt));
  before = λ i undo got. absurd (nothing i undo got);
}
  where
    nothing : (i : ℕ) (undo : Undo) → slice_get [] i ≡ Some undo → ⊥
    nothing i undo is = cc

-- ---- a line that nobody else has changed

-- the entries that stand of a member are those that the ledger has of it
standing_entries : (v : View) (base : Progress) (m : ℕ) (st : Standing) → MemberStands v base m st → (o : Open) → base.going m ≡ Some o → (i : ℕ) (undo : Undo) → slice_get o.entries i ≡ Some undo → slice_get (entries_of st) i ≡ Some undo
standing_entries v base m resting was o is i undo got = let bad : None ≡ Some o = sym was ∙ is in absurd (cc)
standing_entries v base m (changing all n) was o is i undo got = absurd (nothing (ap (λ (l : List Undo). slice_get l i) (sym (ap (λ (p : Open). p.entries) (some_same o was.transaction (sym is ∙ was.seat.is_open)) ∙ was.seat.none_stands)) ∙ got))
  where
    nothing : slice_get [] i ≡ Some undo → ⊥
    nothing bad = cc
standing_entries v base m broken was o is i undo got = absurd (nothing (ap (λ (l : List Undo). slice_get l i) (sym (ap (λ (p : Open). p.entries) (some_same o was.transaction (sym is ∙ was.is_open)) ∙ was.entries)) ∙ got))
  where
    nothing : slice_get [] i ≡ Some undo → ⊥
    nothing bad = cc
standing_entries v base m (committing all) was o is i undo got = ap (λ (l : List Undo). slice_get l i) (sym (ap (λ (p : Open). p.entries) (some_same o was.transaction (sym is ∙ was.is_open)) ∙ was.entries)) ∙ got
standing_entries v base m (undoing all left) was o is i undo got = ap (λ (l : List Undo). slice_get l i) (sym (ap (λ (p : Open). p.entries) (some_same o was.transaction (sym is ∙ was.is_open)) ∙ was.entries)) ∙ got

pub may_change : (v : View) (g : Ledger) → LedgerFacts v g → (member : ℕ) (o : Open) (all : List Undo) (n : ℕ) (key : Dbkey) → g.standing member ≡ changing all n → g.base.going member ≡ Some o
    → ((c : Commit) → g.commit ≡ Some c → c.member ≢ member) → named (v.content (ruj_file member) 0) ≡ o.tsn.number → IsNoneOf key all → IsLeftTo member key g.standing → key.page ≤ g.base.limits.pages → MayChange v (progress_of g) member o all key
may_change v g was member o all n key is going apart names none left within = record {
  names = names;
  none = none;
  untouched = λ m p is_open i undo got.
      let there : g.base.going m ≡ Some p = sym (same_going v g was m) ∙ is_open in
      let kept = standing_entries v g.base m (g.standing m) (was.member m) p there i undo got in
      ⊎_elim (λ (here : m ≡ member). none i undo (ap (λ (s : Standing). slice_get (entries_of s) i) (sym (ap g.standing here ∙ is)) ∙ kept)) (λ away. left m i undo away kept) (nat_cases m member);
  free = free_now v g was member key apart left;
  within = subst (λ l. key.page ≤ l.pages) (sym (same_limits v g was)) within;
}

-- a before-image of it more
pub apart_more : (standing : ℕ → Standing) (member : ℕ) (all : List Undo) (n : ℕ) (undo : Undo) → AreApart standing → standing member ≡ changing all n → IsLeftTo member undo.key standing → AreApart (set_standing member (changing (all ++ undo ∷ []) n) standing)
apart_more standing member all n undo before is left = apart_set standing member (changing (all ++ undo ∷ []) n) before fresh
  where
    fresh : (m i k : ℕ) (a b : Undo) → m ≢ member → slice_get (all ++ undo ∷ []) i ≡ Some a → slice_get (entries_of (standing m)) k ≡ Some b → a.key ≢ b.key
    fresh m i k a b ne p q = ⊎_elim
        (λ old. before member m i k a b (λ same. ne (sym same)) (ap (λ (s : Standing). slice_get (entries_of s) i) is ∙ old) q)
        (λ new. λ same. left m k b ne q (sym same ∙ ap (λ (u : Undo). u.key) (sym (got_one undo a new.0 new.2).1)))
        (got_either all (undo ∷ []) i a p)
