-- Each step keeps that exactly those entries are wanted whose transaction had not ended when some reader began.
use Rattle.std.proofs.Common.{◌≡◌, ◌≢◌, ◌≤◌, ◌<◌, ◌+◌, ℕ, ◌==◌, ◌&&◌, ◌||◌, Bool, true, false, cond, List, [], ◌∷◌, Option, Some, refl, sym, ◌∙◌, ap, subst, arith, ◌⊎◌, inl, inr, ⊎_elim}
use Rattle.std.specs.Prelude.{nat_eq}
use Rattle.std.specs.List.{list_any}
use Rattle.std.proofs.lemmas.Bool.{false≢true}
use Rattle.rdb_outside.specs.rdb_types.declared.keys.Dbkey.{Dbkey}
use Rattle.rdb_outside.specs.rdb_types.declared.keys.Tsn.{Tsn}
use Rattle.rdb_outside.specs.rdb_types.declared.keys.Line.{Line}
use Rattle.snapshot_file.specs.declared.entry.SnapEntry.{SnapEntry}
use Rattle.line_versions.specs.Versions.{Entries, IsOneEach, Followed, snap_of, version_of, Start, sees, Walk}
use Rattle.line_versions.specs.Course.{Reading, Course, opened, with_followed, without_entry, with_going, with_readers, committed, begun, MayBeGiven, AreOthers, IsSettled, IsLeft, AreActive, IsAbove, IsChanged, AreRight}
use Rattle.line_versions.specs.Exact.{Passes, AreExact, IsOnTop}
use Rattle.line_versions.proofs.Walks.{StaysFor, walk_carried, sees_past}
use Rattle.line_versions.proofs.Steps.{is_changed}

number_is : (m n : ℕ) → nat_eq m n ≡ true → m ≡ n
number_is m n h = grind arith

same_is : (m n : ℕ) → m ≡ n → nat_eq m n ≡ true
same_is m n h = grind arith

or_first : (a b : Bool) → a ≡ true → (a || b) ≡ true
or_first a b h = grind arith

or_second : (a b : Bool) → b ≡ true → (a || b) ≡ true
or_second a b h = grind arith

not_on : (b : Bool) → (b ≡ true → ⊥) → b ≡ false
not_on true f = absurd (f refl)
not_on false f = refl

-- ---- what it says

-- Who comes over an entry doesn't see the transaction that pushed it.
over_unseen : (E : Entries) → IsOneEach E → (followed : Followed) (r : Start) (key : Dbkey) (chain : ℕ) (e : SnapEntry) → E (snap_of key) chain e → (over : List ℕ) (line : Line) (a : Option (List ℕ)) → Walk E followed r key over line a → list_any (nat_eq chain) over ≡ true → sees r e.pusher.number ≡ false
over_unseen E one followed r key chain e stands [] line a w there = absurd (false≢true there)
over_unseen E one followed r key chain e stands (at ∷ rest) line a w there = by (nat_eq chain at) refl there (λ h. over_unseen E one followed r key chain e stands rest (version_of w.0.entry) a w.1 h)
  where
    by : (b : Bool) → nat_eq chain at ≡ b → (b || list_any (nat_eq chain) rest) ≡ true → (list_any (nat_eq chain) rest ≡ true → sees r e.pusher.number ≡ false) → sees r e.pusher.number ≡ false
    by true here h behind =
        let same : e ≡ w.0.entry = one (snap_of key) chain e w.0.entry stands (subst (λ (n : ℕ). E (snap_of key) n w.0.entry) (sym (number_is chain at here)) w.0.stands) in
        ap (λ (y : SnapEntry). sees r y.pusher.number) same ∙ (ap (λ (t : Tsn). sees r t.number) w.0.pusher ∙ w.0.unseen)
    by false here h behind = behind h

-- An entry whose transaction has ended may be given back exactly where no reader comes over it.
pub may_be_given : (E : Entries) → IsOneEach E → (v : Course) → AreExact E v → (file chain : ℕ) (e : SnapEntry) → v.followed file chain ≡ true → E file chain e → v.going e.pusher.number ≡ false →
    ((r : ℕ) (x : Reading) → v.reader r ≡ Some x → Passes E v x e.key chain → ⊥) → MayBeGiven v e
may_be_given E one v exact file chain e held stands ended none = record { ended = ended; seen = λ r x is. by r x is (sees x.start e.pusher.number) refl }
  where
    by : (r : ℕ) (x : Reading) → v.reader r ≡ Some x → (b : Bool) → sees x.start e.pusher.number ≡ b → b ≡ true
    by r x is true seen = refl
    by r x is false unseen = absurd (none r x is (exact.passed file chain e r x held stands ended is unseen).1)

pub given_unseen : (E : Entries) → IsOneEach E → (v : Course) → (chain : ℕ) (e : SnapEntry) → E (snap_of e.key) chain e → MayBeGiven v e → (r : ℕ) (x : Reading) → v.reader r ≡ Some x → Passes E v x e.key chain → ⊥
given_unseen E one v chain e stands may r x is p = false≢true (sym (over_unseen E one v.followed x.start e.key chain e stands p.over (v.base e.key) (x.lines e.key) p.walk p.there) ∙ may.seen r x is)

-- ---- steps

pub exact_opens : (E : Entries) (now : Dbkey → Line) (lines : Dbkey → Option (List ℕ)) (next : ℕ) → AreExact E (opened next now lines)
exact_opens E now lines next = record {
  past = λ file chain e held stands. absurd (false≢true held);
  drawn = λ file chain e held stands. absurd (false≢true held);
  passed = λ file chain e r x held stands ended is unseen. absurd (false≢true held);
}

-- a new entry is of a transaction that goes on, and holds a committed version
pub record ComesNew (v : Course) (e : SnapEntry) : Type 0 where
  pub goes : v.going e.pusher.number ≡ true
  pub past : v.going e.tsn.number ≡ false
  pub low : e.tsn.number < v.next

-- Entries are written and given back: those that are needed stay.
pub exact_entries : (E F : Entries) (held : Followed) (v : Course) →
    ((r : ℕ) (x : Reading) → v.reader r ≡ Some x → StaysFor E v.followed F held x.start) →
    ((t : ℕ) → v.going t ≡ true → t < v.next) →
    ((file chain : ℕ) (e : SnapEntry) → held file chain ≡ true → F file chain e → ((v.followed file chain ≡ true) × (E file chain e)) ⊎ ComesNew v e) →
    AreExact E v → AreExact F (with_followed held v)
exact_entries E F held v stay below from was = record {
  past = λ file chain e h s. past file chain e (from file chain e h s);
  drawn = λ file chain e h s. drawn file chain e (from file chain e h s);
  passed = λ file chain e r x h s ended is unseen. passed file chain e r x ended is unseen (from file chain e h s);
}
  where
    past : (file chain : ℕ) (e : SnapEntry) → ((v.followed file chain ≡ true) × (E file chain e)) ⊎ ComesNew v e → (v.going e.tsn.number ≡ false) × (e.tsn.number < v.next)
    past file chain e (inl o) = was.past file chain e o.0 o.1
    past file chain e (inr n) = (n.past, n.low)

    drawn : (file chain : ℕ) (e : SnapEntry) → ((v.followed file chain ≡ true) × (E file chain e)) ⊎ ComesNew v e → e.pusher.number < v.next
    drawn file chain e (inl o) = was.drawn file chain e o.0 o.1
    drawn file chain e (inr n) = below e.pusher.number n.goes

    passed : (file chain : ℕ) (e : SnapEntry) (r : ℕ) (x : Reading) → v.going e.pusher.number ≡ false → v.reader r ≡ Some x → sees x.start e.pusher.number ≡ false → ((v.followed file chain ≡ true) × (E file chain e)) ⊎ ComesNew v e → (snap_of e.key ≡ file) × Passes F (with_followed held v) x e.key chain
    passed file chain e r x ended is unseen (inl o) =
        let p = was.passed file chain e r x o.0 o.1 ended is unseen in
        (p.0, record { over = p.1.over; walk = walk_carried E F v.followed held x.start e.key (stay r x is) p.1.over (v.base e.key) (x.lines e.key) p.1.walk; there = p.1.there })
    passed file chain e r x ended is unseen (inr n) = absurd (false≢true (sym ended ∙ n.goes))

pub exact_begins : (E : Entries) (v : Course) (going : ℕ → Bool) → ((t : ℕ) → going t ≡ true → (v.going t ≡ true) ⊎ (t ≡ v.next)) → ((t : ℕ) → v.going t ≡ true → going t ≡ true) → AreExact E v → AreExact E (with_going (v.next + 1) going v)
exact_begins E v going either goes_on was = record {
  past = λ file chain e h s. let p = was.past file chain e h s in let low : e.tsn.number < v.next = p.1 in (not_on (going e.tsn.number) (λ on. no e.tsn.number p.0 low (either e.tsn.number on)), omega (arith, low));
  drawn = λ file chain e h s. let d = was.drawn file chain e h s in omega (arith, d);
  passed = λ file chain e r x h s ended is unseen.
      let p = was.passed file chain e r x h s (not_on (v.going e.pusher.number) (λ on. false≢true (sym ended ∙ goes_on e.pusher.number on))) is unseen in
      (p.0, record { over = p.1.over; walk = p.1.walk; there = p.1.there });
}
  where
    no : (t : ℕ) → v.going t ≡ false → t < v.next → (v.going t ≡ true) ⊎ (t ≡ v.next) → ⊥
    no t was low (inl on) = false≢true (sym was ∙ on)
    no t was low (inr same) = omega (arith, low, same)

pub exact_undone : (E : Entries) (v : Course) (going : ℕ → Bool) (tsn : ℕ) → AreOthers tsn v.going going → ((file chain : ℕ) (e : SnapEntry) → v.followed file chain ≡ true → E file chain e → e.pusher.number ≢ tsn) → AreExact E v → AreExact E (with_going v.next going v)
exact_undone E v going tsn rest none was = record {
  past = λ file chain e h s. let p = was.past file chain e h s in (not_on (going e.tsn.number) (λ on. false≢true (sym p.0 ∙ rest.fewer e.tsn.number on)), p.1);
  drawn = was.drawn;
  passed = λ file chain e r x h s ended is unseen.
      let p = was.passed file chain e r x h s (not_on (v.going e.pusher.number) (λ on. false≢true (sym ended ∙ rest.others e.pusher.number (none file chain e h s) on))) is unseen in
      (p.0, record { over = p.1.over; walk = p.1.walk; there = p.1.there });
}

pub exact_commits : (E : Entries) (now : Dbkey → Line) (v : Course) (going : ℕ → Bool) (base : Dbkey → Line) (lines : Dbkey → Option (List ℕ)) (tsn : ℕ) → AreOthers tsn v.going going → v.going tsn ≡ true →
    ((key : Dbkey) → IsSettled tsn (now key) (base key) (lines key) ⊎ IsLeft tsn (now key) (v.base key) (base key) (v.lines key) (lines key)) →
    ((file chain : ℕ) (e : SnapEntry) → v.followed file chain ≡ true → E file chain e → e.pusher.number ≡ tsn → IsOnTop now tsn file chain e) →
    AreRight E now v → AreExact E v → AreExact E (committed going base lines v)
exact_commits E now v going base lines tsn rest goes each top right was = record {
  past = λ file chain e h s. let p = was.past file chain e h s in (not_on (going e.tsn.number) (λ on. false≢true (sym p.0 ∙ rest.fewer e.tsn.number on)), p.1);
  drawn = was.drawn;
  passed = λ file chain e r x h s ended is unseen. by file chain e r x h s ended is unseen (nat_eq e.pusher.number tsn) refl;
}
  where
    -- the line was changed by the transaction: a walk from it goes over its chain, and on from the base
    onto : (key : Dbkey) (r : ℕ) (x : Reading) → v.reader r ≡ Some x → (now key).tsn.number ≡ tsn → (over : List ℕ) → Walk E v.followed x.start key over (v.base key) (x.lines key) → (chain : ℕ) → list_any (nat_eq chain) over ≡ true ⊎ (((now key).chain ≡ chain) × (1 ≤ chain)) →
        (over' : List ℕ) × (Walk E v.followed x.start key over' (now key) (x.lines key)) × (list_any (nat_eq chain) over' ≡ true)
    onto key r x is bears over w chain there = above (c.above) there
      where
        on : v.going (now key).tsn.number ≡ true
        on = ap v.going bears ∙ goes

        c : IsChanged E v key (now key)
        c = is_changed E now v right key on

        unseen : sees x.start (now key).tsn.number ≡ false
        unseen = (right.readers r x is).unseen (now key).tsn.number on

        above : IsAbove E v.followed key (now key) (v.base key) → list_any (nat_eq chain) over ≡ true ⊎ (((now key).chain ≡ chain) × (1 ≤ chain)) → (over' : List ℕ) × (Walk E v.followed x.start key over' (now key) (x.lines key)) × (list_any (nat_eq chain) over' ≡ true)
        above (inl first) (inr at) = let a : (now key).chain ≡ chain = at.0 in let b : 1 ≤ chain = at.1 in let z : (now key).chain ≡ 0 = first.chain in absurd (omega (arith, a, b, z))
        above (inl first) (inl there) = absurd (bare over w there)
          where
            bare : (over : List ℕ) → Walk E v.followed x.start key over (v.base key) (x.lines key) → list_any (nat_eq chain) over ≡ true → ⊥
            bare [] w there = false≢true there
            bare (at ∷ rest) w there = let a : 1 ≤ at = w.0.number in let b : (v.base key).chain ≡ at = w.0.chain in let z : (v.base key).chain ≡ 0 = first.none in omega (arith, a, b, z)
        above (inr p) there = (
          (now key).chain ∷ over,
          (
            record { unseen = unseen; chain = refl; number = p.number; entry = p.entry; stands = p.stands; held = p.held; key_is = p.key_is; pusher = p.pusher },
            subst (λ (l : Line). Walk E v.followed x.start key over l (x.lines key)) (sym p.version) w,
          ),
          ⊎_elim (λ h. or_second (nat_eq chain (now key).chain) (list_any (nat_eq chain) over) h) (λ h. or_first (nat_eq chain (now key).chain) (list_any (nat_eq chain) over) (same_is chain (now key).chain (sym h.0))) there,
        )

    settles : (key : Dbkey) (x : Reading) (chain : ℕ) → (over : List ℕ) → Walk E v.followed x.start key over (now key) (x.lines key) → list_any (nat_eq chain) over ≡ true → base key ≡ now key → Passes E (committed going base lines v) x key chain
    settles key x chain over w there same = record { over = over; walk = subst (λ (l : Line). Walk E v.followed x.start key over l (x.lines key)) (sym same) w; there = there }

    old : (key : Dbkey) (r : ℕ) (x : Reading) (chain : ℕ) → v.reader r ≡ Some x → Passes E v x key chain → IsSettled tsn (now key) (base key) (lines key) ⊎ IsLeft tsn (now key) (v.base key) (base key) (v.lines key) (lines key) → Passes E (committed going base lines v) x key chain
    old key r x chain is p (inl s) = let o = onto key r x is s.bears p.over p.walk chain (inl p.there) in settles key x chain o.0 o.1 o.2 s.is
    old key r x chain is p (inr l) = record { over = p.over; walk = subst (λ (b : Line). Walk E v.followed x.start key p.over b (x.lines key)) (sym l.is) p.walk; there = p.there }

    new : (key : Dbkey) (r : ℕ) (x : Reading) (chain : ℕ) → v.reader r ≡ Some x → (now key).tsn.number ≡ tsn → (now key).chain ≡ chain → 1 ≤ chain → IsSettled tsn (now key) (base key) (lines key) ⊎ IsLeft tsn (now key) (v.base key) (base key) (v.lines key) (lines key) → Passes E (committed going base lines v) x key chain
    new key r x chain is bears at some (inr l) = absurd (l.other bears)
    new key r x chain is bears at some (inl s) =
        let b = (right.readers r x is).sees_base key in
        let o = onto key r x is bears b.over b.walk chain (inr (at, some)) in
        settles key x chain o.0 o.1 o.2 s.is

    by : (file chain : ℕ) (e : SnapEntry) (r : ℕ) (x : Reading) → v.followed file chain ≡ true → E file chain e → going e.pusher.number ≡ false → v.reader r ≡ Some x → sees x.start e.pusher.number ≡ false → (b : Bool) → nat_eq e.pusher.number tsn ≡ b → (snap_of e.key ≡ file) × Passes E (committed going base lines v) x e.key chain
    by file chain e r x h s ended is unseen true same =
        let t = top file chain e h s (number_is e.pusher.number tsn same) in
        (t.file_is, new e.key r x chain is t.bears t.chain_is t.number (each e.key))
    by file chain e r x h s ended is unseen false other =
        let p = was.passed file chain e r x h s (not_on (v.going e.pusher.number) (λ on. false≢true (sym ended ∙ rest.others e.pusher.number (λ same. false≢true (sym other ∙ same_is e.pusher.number tsn same)) on))) is unseen in
        (p.0, old e.key r x chain is p.1 (each e.key))

pub exact_readers : (E : Entries) (v : Course) (active : List ℕ) (reader : ℕ → Option Reading) → AreActive active v → ((r : ℕ) (x : Reading) → reader r ≡ Some x → (v.reader r ≡ Some x) ⊎ (x ≡ begun active v)) → AreExact E v → AreExact E (with_readers reader v)
exact_readers E v active reader are either was = record {
  past = was.past;
  drawn = was.drawn;
  passed = λ file chain e r x h s ended is unseen. by file chain e r x h s ended unseen (either r x is);
}
  where
    by : (file chain : ℕ) (e : SnapEntry) (r : ℕ) (x : Reading) → v.followed file chain ≡ true → E file chain e → v.going e.pusher.number ≡ false → sees x.start e.pusher.number ≡ false → (v.reader r ≡ Some x) ⊎ (x ≡ begun active v) → (snap_of e.key ≡ file) × Passes E (with_readers reader v) x e.key chain
    by file chain e r x h s ended unseen (inl is) =
        let p = was.passed file chain e r x h s ended is unseen in
        (p.0, record { over = p.1.over; walk = p.1.walk; there = p.1.there })
    by file chain e r x h s ended unseen (inr is) =
        let seen : sees (begun active v).start e.pusher.number ≡ true = sees_past (begun active v).start e.pusher.number (was.drawn file chain e h s) (are.only e.pusher.number ended) in
        absurd (false≢true (sym unseen ∙ (ap (λ (y : Reading). sees y.start e.pusher.number) is ∙ seen)))

-- ---- entries of an undone transaction

-- Over the versions from a committed line on, each entry that is come over was pushed by a transaction that has ended.
module _ (E : Entries) (followed held : Followed) (v : Course) (r : Start) (key : Dbkey)
    (past : (file chain : ℕ) (e : SnapEntry) → followed file chain ≡ true → E file chain e → (v.going e.tsn.number ≡ false) × (e.tsn.number < v.next))
    (stay : (file chain : ℕ) (e : SnapEntry) → E file chain e → followed file chain ≡ true → v.going e.pusher.number ≡ false → held file chain ≡ true) where
  pub walk_ended : (over : List ℕ) (line : Line) (a : Option (List ℕ)) → v.going line.tsn.number ≡ false → Walk E followed r key over line a → Walk E held r key over line a
  walk_ended [] line a ended w = w
  walk_ended (at ∷ rest) line a ended w = (
    record {
      unseen = w.0.unseen;
      chain = w.0.chain;
      number = w.0.number;
      entry = w.0.entry;
      stands = w.0.stands;
      held = stay (snap_of key) at w.0.entry w.0.stands w.0.held (ap (λ (t : Tsn). v.going t.number) w.0.pusher ∙ ended);
      key_is = w.0.key_is;
      pusher = w.0.pusher;
    },
    walk_ended rest (version_of w.0.entry) a (past (snap_of key) at w.0.entry w.0.held w.0.stands).0 w.1,
  )

-- The lines of a transaction are all undone, and it hasn't ended yet: nothing leads to what it pushed.
module _ (E : Entries) (now : Dbkey → Line) (v : Course) (tsn file chain : ℕ) (goes : v.going tsn ≡ true) (nowhere : (key : Dbkey) → (now key).tsn.number ≢ tsn)
    (its : (e : SnapEntry) → E file chain e → e.pusher.number ≡ tsn) (right : AreRight E now v) (exact : AreExact E v) where
  other_stays : (f c : ℕ) (e : SnapEntry) → E f c e → v.followed f c ≡ true → e.pusher.number ≢ tsn → without_entry file chain v.followed f c ≡ true
  other_stays f c e stands held other = by ((f == file) && (c == chain)) refl (v.followed f c) held
    where
      first : (a b : Bool) → (a && b) ≡ true → a ≡ true
      first a b h = grind arith

      second : (a b : Bool) → (a && b) ≡ true → b ≡ true
      second a b h = grind arith

      number : (m n : ℕ) → (m == n) ≡ true → m ≡ n
      number m n h = grind arith

      by : (b : Bool) → ((f == file) && (c == chain)) ≡ b → (x : Bool) → x ≡ true → cond b false x ≡ true
      by true is x h =
          let at : f ≡ file = number f file (first (f == file) (c == chain) is) in
          let on : c ≡ chain = number c chain (second (f == file) (c == chain) is) in
          absurd (other (its e (subst (λ (n : ℕ). E file n e) on (subst (λ (m : ℕ). E m c e) at stands))))
      by false is x h = h

  ended_stays : (f c : ℕ) (e : SnapEntry) → E f c e → v.followed f c ≡ true → v.going e.pusher.number ≡ false → without_entry file chain v.followed f c ≡ true
  ended_stays f c e stands held ended = other_stays f c e stands held (λ same. false≢true (sym ended ∙ (ap v.going same ∙ goes)))

  above_stays : (key : Dbkey) → IsAbove E v.followed key (now key) (v.base key) → IsAbove E (without_entry file chain v.followed) key (now key) (v.base key)
  above_stays key (inl first) = inl first
  above_stays key (inr p) = inr (record {
    number = p.number;
    entry = p.entry;
    stands = p.stands;
    held = other_stays (snap_of key) (now key).chain p.entry p.stands p.held (λ same. nowhere key (sym (ap (λ (t : Tsn). t.number) p.pusher) ∙ same));
    key_is = p.key_is;
    pusher = p.pusher;
    version = p.version;
  })

  pub undone_given : AreRight E now (with_followed (without_entry file chain v.followed) v)
  undone_given = record {
    shows = right.shows;
    drawn = right.drawn;
    ended = right.ended;
    below = right.below;
    current = λ key. by key (right.current key);
    readers = λ r x is. record {
      began = (right.readers r x is).began;
      unseen = (right.readers r x is).unseen;
      sees_base = λ key. let s = (right.readers r x is).sees_base key in record { over = s.over; walk = walk_ended E v.followed (without_entry file chain v.followed) v x.start key exact.past ended_stays s.over (v.base key) (x.lines key) (right.ended key) s.walk };
    };
  }
    where
      by : (key : Dbkey) → (now key ≡ v.base key) ⊎ IsChanged E v key (now key) → (now key ≡ v.base key) ⊎ IsChanged E (with_followed (without_entry file chain v.followed) v) key (now key)
      by key (inl same) = inl same
      by key (inr c) = inr (record { going = c.going; above = above_stays key c.above })

  pub exact_given : AreExact E (with_followed (without_entry file chain v.followed) v)
  exact_given = record {
    past = λ f c e h s. exact.past f c e (was f c h) s;
    drawn = λ f c e h s. exact.drawn f c e (was f c h) s;
    passed = λ f c e r x h s ended is unseen.
        let p = exact.passed f c e r x (was f c h) s ended is unseen in
        (p.0, record { over = p.1.over; walk = walk_ended E v.followed (without_entry file chain v.followed) v x.start e.key exact.past ended_stays p.1.over (v.base e.key) (x.lines e.key) (right.ended e.key) p.1.walk; there = p.1.there });
  }
    where
      less : (b x : Bool) → cond b false x ≡ true → x ≡ true
      less true x h = absurd (false≢true h)
      less false x h = h

      was : (f c : ℕ) → without_entry file chain v.followed f c ≡ true → v.followed f c ≡ true
      was f c h = less ((f == file) && (c == chain)) (v.followed f c) h
