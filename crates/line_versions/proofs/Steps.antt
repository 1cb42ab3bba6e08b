-- Steps of transactions and readers: each keeps what is always true of the versions.
use Rattle.std.proofs.Common.{◌≡◌, ◌≢◌, ◌≤◌, ◌<◌, ◌+◌, ℕ, Bool, true, false, List, Option, Some, None, refl, sym, ◌∙◌, ap, subst, arith, ◌⊎◌, inl, inr, ⊎_elim}
use Rattle.std.proofs.lemmas.Bool.{false≢true}
use Rattle.rdb_outside.specs.rdb_types.declared.keys.Dbkey.{Dbkey}
use Rattle.rdb_outside.specs.rdb_types.declared.keys.Tsn.{Tsn}
use Rattle.rdb_outside.specs.rdb_types.declared.keys.Line.{Line}
use Rattle.rdb_outside.specs.rdb_types.declared.keys.LineState.TheVariants.{Never}
use Rattle.snapshot_file.specs.declared.entry.SnapEntry.{SnapEntry}
use Rattle.line_versions.specs.Lines.{shown}
use Rattle.line_versions.specs.Versions.{Entries, Followed, snap_of, sees, Sees}
use Rattle.line_versions.specs.Course.{pushed, Reading, Course, opened, with_followed, with_going, with_readers, committed, begun, IsNeeded, AreOthers, IsSettled, IsLeft, AreActive, IsFirst, IsAbove, IsChanged, IsReader, AreRight}
use Rattle.line_versions.proofs.Walks.{sees_future, sees_active, sees_past, sees_carried, sees_above, sees_own, nothing_shown}

-- From each current line every reader comes to what was committed when it began.
pub reader_is_right : (E : Entries) (now : Dbkey → Line) (v : Course) → AreRight E now v → (r : ℕ) (x : Reading) → v.reader r ≡ Some x → (key : Dbkey) → Sees E v.followed x.start key (now key) (x.lines key)
reader_is_right E now v was r x is key = by (was.current key)
  where
    reads : IsReader E v x
    reads = was.readers r x is

    by : (now key ≡ v.base key) ⊎ IsChanged E v key (now key) → Sees E v.followed x.start key (now key) (x.lines key)
    by (inl same) = subst (λ (l : Line). Sees E v.followed x.start key l (x.lines key)) (sym same) (reads.sees_base key)
    by (inr c) = sees_above E v.followed x.start key (now key) (v.base key) (x.lines key) c.above (reads.unseen (now key).tsn.number c.going) (reads.sees_base key)

-- A line that was never used was not there for any reader.
pub unused_shows_nothing : (E : Entries) (now : Dbkey → Line) (v : Course) → AreRight E now v → (r : ℕ) (x : Reading) → v.reader r ≡ Some x → (key : Dbkey) → (now key).state ≡ Never → (now key).chain ≡ 0 → x.lines key ≡ None
unused_shows_nothing E now v was r x is key never bare =
    let s = reader_is_right E now v was r x is key in
    nothing_shown E v.followed x.start key (now key) (x.lines key) never bare s.over s.walk

-- ---- opening

pub opens : (E : Entries) (now : Dbkey → Line) (lines : Dbkey → Option (List ℕ)) (next : ℕ) → ((key : Dbkey) → shown (now key) ≡ lines key) → ((key : Dbkey) → (now key).tsn.number < next) → AreRight E now (opened next now lines)
opens E now lines next shows drawn = record {
  shows = shows;
  drawn = drawn;
  ended = λ key. refl;
  below = λ t going. absurd (false≢true going);
  current = λ key. inl refl;
  readers = λ r x is. let bad : None ≡ Some x = is in absurd cc;
}

-- ---- entries

-- Entries that are needed stay, and whatever else is done to the snapshot files.
pub entries_other : (E F : Entries) (held : Followed) (now : Dbkey → Line) (v : Course) →
    ((file chain : ℕ) (e : SnapEntry) → E file chain e → v.followed file chain ≡ true → IsNeeded v e → (F file chain e) × (held file chain ≡ true)) →
    AreRight E now v → AreRight F now (with_followed held v)
entries_other E F held now v stay was = record {
  shows = was.shows;
  drawn = was.drawn;
  ended = was.ended;
  below = was.below;
  current = λ key. by key (was.current key);
  readers = λ r x is. record {
    began = (was.readers r x is).began;
    unseen = (was.readers r x is).unseen;
    sees_base = λ key. sees_carried E F v.followed held x.start key (λ file chain e stands followed unseen. stay file chain e stands followed (inr (r, x, is, unseen))) (v.base key) (x.lines key) ((was.readers r x is).sees_base key);
  };
}
  where
    above : (key : Dbkey) → (c : IsChanged E v key (now key)) → IsAbove E v.followed key (now key) (v.base key) → IsAbove F held key (now key) (v.base key)
    above key c (inl first) = inl first
    above key c (inr p) =
        let there = stay (snap_of key) (now key).chain p.entry p.stands p.held (inl (ap (λ (t : Tsn). v.going t.number) p.pusher ∙ c.going)) in
        inr (record { number = p.number; entry = p.entry; stands = there.0; held = there.1; key_is = p.key_is; pusher = p.pusher; version = p.version })

    by : (key : Dbkey) → (now key ≡ v.base key) ⊎ IsChanged E v key (now key) → (now key ≡ v.base key) ⊎ IsChanged F (with_followed held v) key (now key)
    by key (inl same) = inl same
    by key (inr c) = inr (record { going = c.going; above = above key c c.above })

-- ---- lines

-- Each line stands as it did, or is the committed one, or one that a transaction that goes on put above it: a change, a further one, an undoing.
pub lines_other : (E : Entries) (now then : Dbkey → Line) (v : Course) → ((key : Dbkey) → (then key ≡ now key) ⊎ ((then key ≡ v.base key) ⊎ IsChanged E v key (then key))) → AreRight E now v → AreRight E then v
lines_other E now then v each was = record {
  shows = was.shows;
  drawn = was.drawn;
  ended = was.ended;
  below = was.below;
  current = λ key. by key (each key);
  readers = was.readers;
}
  where
    by : (key : Dbkey) → (then key ≡ now key) ⊎ ((then key ≡ v.base key) ⊎ IsChanged E v key (then key)) → (then key ≡ v.base key) ⊎ IsChanged E v key (then key)
    by key (inl same) = subst (λ (l : Line). (l ≡ v.base key) ⊎ IsChanged E v key l) (sym same) (was.current key)
    by key (inr is) = is

-- the line is the committed one where it bears no transaction that goes on
pub is_base : (E : Entries) (now : Dbkey → Line) (v : Course) → AreRight E now v → (key : Dbkey) → v.going (now key).tsn.number ≡ false → now key ≡ v.base key
is_base E now v was key ended = ⊎_elim (λ same. same) (λ c. absurd (false≢true (sym ended ∙ c.going))) (was.current key)

-- else it was changed
pub is_changed : (E : Entries) (now : Dbkey → Line) (v : Course) → AreRight E now v → (key : Dbkey) → v.going (now key).tsn.number ≡ true → IsChanged E v key (now key)
is_changed E now v was key going = ⊎_elim (λ same. absurd (false≢true (sym (was.ended key) ∙ (sym (ap (λ (l : Line). v.going l.tsn.number) same) ∙ going)))) (λ c. c) (was.current key)

-- the first change of a line, whose entry stands
pub changed_first : (E : Entries) (now : Dbkey → Line) (v : Course) (key : Dbkey) (line : Line) → AreRight E now v → v.going (now key).tsn.number ≡ false → v.going line.tsn.number ≡ true →
    1 ≤ line.chain → E (snap_of key) line.chain (pushed key line.tsn (now key)) → v.followed (snap_of key) line.chain ≡ true → IsChanged E v key line
changed_first E now v key line was ended going number stands held = record {
  going = going;
  above = inr (record { number = number; entry = pushed key line.tsn (now key); stands = stands; held = held; key_is = refl; pusher = refl; version = is_base E now v was key ended });
}

-- the first change of a line that was never used
pub changed_new : (E : Entries) (now : Dbkey → Line) (v : Course) (key : Dbkey) (line : Line) → AreRight E now v → v.going (now key).tsn.number ≡ false → v.going line.tsn.number ≡ true →
    IsFirst line (now key) → IsChanged E v key line
changed_new E now v key line was ended going first = record { going = going; above = inl (subst (λ (l : Line). IsFirst line l) (is_base E now v was key ended) first) }

-- a further change of a line
pub changed_again : (E : Entries) (now : Dbkey → Line) (v : Course) (key : Dbkey) (line : Line) → AreRight E now v → v.going line.tsn.number ≡ true → line.tsn ≡ (now key).tsn → line.chain ≡ (now key).chain → IsChanged E v key line
changed_again E now v key line was going tsn chain = by (is_changed E now v was key (sym (ap (λ (t : Tsn). v.going t.number) tsn) ∙ going))
  where
    above : (n : Line) → line.tsn ≡ n.tsn → line.chain ≡ n.chain → IsAbove E v.followed key n (v.base key) → IsAbove E v.followed key line (v.base key)
    above n t c (inl first) = inl (record { never = first.never; none = first.none; chain = c ∙ first.chain })
    above n t c (inr p) = inr (record {
      number = subst (λ (k : ℕ). 1 ≤ k) (sym c) p.number;
      entry = p.entry;
      stands = subst (λ (k : ℕ). E (snap_of key) k p.entry) (sym c) p.stands;
      held = ap (λ (k : ℕ). v.followed (snap_of key) k) c ∙ p.held;
      key_is = p.key_is;
      pusher = p.pusher ∙ sym t;
      version = p.version;
    })

    by : IsChanged E v key (now key) → IsChanged E v key line
    by c = record { going = going; above = above (now key) tsn chain c.above }

-- ---- transactions

not_true : (b : Bool) → (b ≡ true → ⊥) → b ≡ false
not_true true f = absurd (f refl)
not_true false f = refl

-- A read-write transaction begins with the next number.
pub begins : (E : Entries) (now : Dbkey → Line) (v : Course) (going : ℕ → Bool) →
    ((t : ℕ) → going t ≡ true → (v.going t ≡ true) ⊎ (t ≡ v.next)) → ((t : ℕ) → v.going t ≡ true → going t ≡ true) →
    AreRight E now v → AreRight E now (with_going (v.next + 1) going v)
begins E now v going either goes_on was = record {
  shows = was.shows;
  drawn = λ key. let h = was.drawn key in omega (arith, h);
  ended = λ key. not_true (going (v.base key).tsn.number) (λ on. no_base key (either (v.base key).tsn.number on));
  below = λ t on. under t (either t on);
  current = λ key. by key (was.current key);
  readers = λ r x is. record {
    began = let h = (was.readers r x is).began in omega (arith, h);
    unseen = λ t on. hidden r x is t (either t on);
    sees_base = (was.readers r x is).sees_base;
  };
}
  where
    no_base : (key : Dbkey) → (v.going (v.base key).tsn.number ≡ true) ⊎ ((v.base key).tsn.number ≡ v.next) → ⊥
    no_base key (inl goes) = false≢true (sym (was.ended key) ∙ goes)
    no_base key (inr same) = let h = was.drawn key in omega (arith, h, same)

    under : (t : ℕ) → (v.going t ≡ true) ⊎ (t ≡ v.next) → t < v.next + 1
    under t (inl goes) = let h = was.below t goes in omega (arith, h)
    under t (inr same) = omega (arith, same)

    by : (key : Dbkey) → (now key ≡ v.base key) ⊎ IsChanged E v key (now key) → (now key ≡ v.base key) ⊎ IsChanged E (with_going (v.next + 1) going v) key (now key)
    by key (inl same) = inl same
    by key (inr c) = inr (record { going = goes_on (now key).tsn.number c.going; above = c.above })

    hidden : (r : ℕ) (x : Reading) → v.reader r ≡ Some x → (t : ℕ) → (v.going t ≡ true) ⊎ (t ≡ v.next) → sees x.start t ≡ false
    hidden r x is t (inl goes) = (was.readers r x is).unseen t goes
    hidden r x is t (inr same) = sees_future x.start t (let h = (was.readers r x is).began in omega (arith, h, same))

-- A transaction ends as undone: no line bears it any more.
pub ends_undone : (E : Entries) (now : Dbkey → Line) (v : Course) (going : ℕ → Bool) (tsn : ℕ) → AreOthers tsn v.going going → ((key : Dbkey) → (now key).tsn.number ≢ tsn) → AreRight E now v → AreRight E now (with_going v.next going v)
ends_undone E now v going tsn rest nowhere was = record {
  shows = was.shows;
  drawn = was.drawn;
  ended = λ key. not_true (going (v.base key).tsn.number) (λ on. false≢true (sym (was.ended key) ∙ rest.fewer (v.base key).tsn.number on));
  below = λ t on. was.below t (rest.fewer t on);
  current = λ key. by key (was.current key);
  readers = λ r x is. record {
    began = (was.readers r x is).began;
    unseen = λ t on. (was.readers r x is).unseen t (rest.fewer t on);
    sees_base = (was.readers r x is).sees_base;
  };
}
  where
    by : (key : Dbkey) → (now key ≡ v.base key) ⊎ IsChanged E v key (now key) → (now key ≡ v.base key) ⊎ IsChanged E (with_going v.next going v) key (now key)
    by key (inl same) = inl same
    by key (inr c) = inr (record { going = rest.others (now key).tsn.number (nowhere key) c.going; above = c.above })

-- A transaction commits.
pub commits : (E : Entries) (now : Dbkey → Line) (v : Course) (going : ℕ → Bool) (base : Dbkey → Line) (lines : Dbkey → Option (List ℕ)) (tsn : ℕ) → AreOthers tsn v.going going → v.going tsn ≡ true →
    ((key : Dbkey) → IsSettled tsn (now key) (base key) (lines key) ⊎ IsLeft tsn (now key) (v.base key) (base key) (v.lines key) (lines key)) →
    AreRight E now v → AreRight E now (committed going base lines v)
commits E now v going base lines tsn rest goes each was = record {
  shows = λ key. shows key (each key);
  drawn = λ key. drawn key (each key);
  ended = λ key. ended key (each key);
  below = λ t on. was.below t (rest.fewer t on);
  current = λ key. current key (each key);
  readers = λ r x is. record {
    began = (was.readers r x is).began;
    unseen = λ t on. (was.readers r x is).unseen t (rest.fewer t on);
    sees_base = λ key. from r x is key (each key);
  };
}
  where
    shows : (key : Dbkey) → IsSettled tsn (now key) (base key) (lines key) ⊎ IsLeft tsn (now key) (v.base key) (base key) (v.lines key) (lines key) → shown (base key) ≡ lines key
    shows key (inl s) = ap shown s.is ∙ s.shown_is
    shows key (inr l) = ap shown l.is ∙ (was.shows key ∙ sym l.shows_as)

    drawn : (key : Dbkey) → IsSettled tsn (now key) (base key) (lines key) ⊎ IsLeft tsn (now key) (v.base key) (base key) (v.lines key) (lines key) → (base key).tsn.number < v.next
    drawn key (inl s) = subst (λ (n : ℕ). n < v.next) (sym (ap (λ (l : Line). l.tsn.number) s.is ∙ s.bears)) (was.below tsn goes)
    drawn key (inr l) = subst (λ (n : ℕ). n < v.next) (sym (ap (λ (l : Line). l.tsn.number) l.is)) (was.drawn key)

    ended : (key : Dbkey) → IsSettled tsn (now key) (base key) (lines key) ⊎ IsLeft tsn (now key) (v.base key) (base key) (v.lines key) (lines key) → going (base key).tsn.number ≡ false
    ended key (inl s) = ap (λ (l : Line). going l.tsn.number) s.is ∙ (ap going s.bears ∙ rest.gone)
    ended key (inr l) = ap (λ (l : Line). going l.tsn.number) l.is ∙ not_true (going (v.base key).tsn.number) (λ on. false≢true (sym (was.ended key) ∙ rest.fewer (v.base key).tsn.number on))

    followed : (key : Dbkey) → (l : IsLeft tsn (now key) (v.base key) (base key) (v.lines key) (lines key)) → (now key ≡ v.base key) ⊎ IsChanged E v key (now key) → (now key ≡ base key) ⊎ IsChanged E (committed going base lines v) key (now key)
    followed key l (inl same) = inl (same ∙ sym l.is)
    followed key l (inr c) = inr (record { going = rest.others (now key).tsn.number l.other c.going; above = subst (λ (b : Line). IsAbove E v.followed key (now key) b) (sym l.is) c.above })

    current : (key : Dbkey) → IsSettled tsn (now key) (base key) (lines key) ⊎ IsLeft tsn (now key) (v.base key) (base key) (v.lines key) (lines key) → (now key ≡ base key) ⊎ IsChanged E (committed going base lines v) key (now key)
    current key (inl s) = inl (sym s.is)
    current key (inr l) = followed key l (was.current key)

    from : (r : ℕ) (x : Reading) → v.reader r ≡ Some x → (key : Dbkey) → IsSettled tsn (now key) (base key) (lines key) ⊎ IsLeft tsn (now key) (v.base key) (base key) (v.lines key) (lines key) → Sees E v.followed x.start key (base key) (x.lines key)
    from r x is key (inl s) = subst (λ (l : Line). Sees E v.followed x.start key l (x.lines key)) (sym s.is) (reader_is_right E now v was r x is key)
    from r x is key (inr l) = subst (λ (b : Line). Sees E v.followed x.start key b (x.lines key)) (sym l.is) ((was.readers r x is).sees_base key)

-- ---- readers

-- Readers end, and one may begin.
pub readers_other : (E : Entries) (now : Dbkey → Line) (v : Course) (active : List ℕ) (reader : ℕ → Option Reading) → AreActive active v →
    ((r : ℕ) (x : Reading) → reader r ≡ Some x → (v.reader r ≡ Some x) ⊎ (x ≡ begun active v)) → AreRight E now v → AreRight E now (with_readers reader v)
readers_other E now v active reader are either was = record {
  shows = was.shows;
  drawn = was.drawn;
  ended = was.ended;
  below = was.below;
  current = λ key. still key (was.current key);
  readers = λ r x is. by r x (either r x is);
}
  where
    fresh : IsReader E v (begun active v)
    fresh = record {
      began = omega arith;
      unseen = λ t goes. sees_active (begun active v).start t (are.all t goes);
      sees_base = λ key. sees_own E v.followed (begun active v).start key (v.base key) (v.lines key) (sees_past (begun active v).start (v.base key).tsn.number (was.drawn key) (are.only (v.base key).tsn.number (was.ended key))) (sym (was.shows key));
    }

    still : (key : Dbkey) → (now key ≡ v.base key) ⊎ IsChanged E v key (now key) → (now key ≡ v.base key) ⊎ IsChanged E (with_readers reader v) key (now key)
    still key (inl same) = inl same
    still key (inr c) = inr (record { going = c.going; above = c.above })

    old : (x : Reading) → IsReader E v x → IsReader E (with_readers reader v) x
    old x s = record { began = s.began; unseen = s.unseen; sees_base = s.sees_base }

    by : (r : ℕ) (x : Reading) → (v.reader r ≡ Some x) ⊎ (x ≡ begun active v) → IsReader E (with_readers reader v) x
    by r x (inl is) = old x (was.readers r x is)
    by r x (inr is) = subst (λ (y : Reading). IsReader E (with_readers reader v) y) (sym is) (old (begun active v) fresh)
