-- What is known stays guarded as it grows.
use Rattle.std.proofs.Common.{◌≡◌, ℕ, zero, suc, ◌<◌, Bool, true, false, cond, ◌==◌, List, [], ◌∷◌, take, get_or, length, Option, Some, None, Result, Ok, Err, ◌⊎◌, inl, inr, refl, sym, ap, subst, ◌∙◌, arith}
use Rattle.std.specs.Prelude.{is_some}
use Rattle.std.specs.List.{AllByRecursion}
use Rattle.std.specs.declared.cmp.Ordering.{Ordering}
use Rattle.std.specs.declared.cmp.Ordering.TheVariants.{Less, Equal, Greater}
use Rattle.std.specs.Ordering.{is_eq, nat_cmp}
use Rattle.std.specs.Cmp.{nat_cmp_total, unsigned_tied}
use Rattle.std.specs.FinMap.Entries.{find, put, find-put}
use Rattle.std.specs.Map.{set_value}
use Rattle.std.specs.BTreeMap.{is_at}
use Rattle.std.proofs.lemmas.Bool.{false≢true, eqb-true}
use Rattle.std.proofs.lemmas.Option.{none-some}
use Rattle.rdb_types.specs.declared.keys.Dbkey.{Dbkey}
use Rattle.rdb_types.specs.Order.{dbkey_order}
use Rattle.rdb_types.specs.OrderLaws.{dbkey_total, same_dbkey}
use Rattle.lock_needs.specs.declared.need.Need.{Need as LockNeed}
use Rattle.rdb_account.specs.AskedFor.{area_node}
use Rattle.line_view.specs.declared.need.Room.{Room}
use Rattle.line_view.specs.declared.writes.Write.{Write}
use Rattle.line_view.specs.Knowledge.{Lines, lines_in, keys_of}
use Rattle.line_view.specs.Held.{Held, knows, nothing, usable, unless_present, ordered, written, with_line, with_lines, with_area, with_write, with_written, room_order}
use Rattle.line_view.proofs.Agreements.{room_is}
use Rattle.line_store.specs.declared.answers.Progress.{Progress}
use Rattle.line_store.specs.declared.answers.Progress.TheVariants.{Done, More}
use Rattle.line_store.specs.declared.answers.ReadStop.{ReadStop}
use Rattle.line_store.specs.Sights.{Sight, LearnsLine, LearnsArea, LearnsSome}
use Rattle.kept_apart.specs.Guards.{line_node, is_guarded, may_write, AreOwn}
use Rattle.kept_apart.specs.Alike.{IsGuarded}
use Rattle.kept_apart.proofs.Apart.{area-guards, write-guards}

equal : (o : Ordering) → is_eq o ≡ true → o ≡ Equal
equal Less h = absurd (false≢true h)
equal Equal h = refl
equal Greater h = absurd (false≢true h)

pub done-or : (r : Result Progress ReadStop) → (r ≡ Ok Done) ⊎ (r ≡ Ok Done → ⊥)
done-or (Ok Done) = inl refl
done-or (Ok More) = inr (λ e. absurd (cc))
done-or (Err stop) = inr (λ e. absurd (cc))

-- an area that is known behind a write was known before
some-set : (a : ℕ) (test : ℕ → Bool) (keys : List Dbkey) (es : List (ℕ × List Dbkey)) → is_some (find nat_cmp a (set_value test es keys)) ≡ is_some (find nat_cmp a es)
some-set a test keys [] = refl
some-set a test keys (e ∷ es) = elim (test e.0) as (λ b. is_some (find nat_cmp a (cond b ((e.0, keys) ∷ es) (e ∷ set_value test es keys))) ≡ is_some (find nat_cmp a (e ∷ es))) [
  | true ↦ elim (is_eq (nat_cmp a e.0)) as (λ b. is_some (cond b (Some keys) (find nat_cmp a es)) ≡ is_some (cond b (Some e.1) (find nat_cmp a es))) [ true ↦ refl | false ↦ refl ]
  | false ↦ elim (is_eq (nat_cmp a e.0)) as (λ b. is_some (cond b (Some e.1) (find nat_cmp a (set_value test es keys))) ≡ is_some (cond b (Some e.1) (find nat_cmp a es))) [ true ↦ refl | false ↦ some-set a test keys es ]
]

some-written : (key : Dbkey) (is_present : Bool) (areas : List (ℕ × List Dbkey)) (before : Option (List Dbkey)) (a : ℕ) → is_some (find nat_cmp a (with_written key is_present areas before)) ≡ is_some (find nat_cmp a areas)
some-written key is_present areas None a = refl
some-written key is_present areas (Some keys) a = some-set a (is_at (nat_cmp key.area)) (written key is_present keys) areas

module _ (got : List LockNeed) where
  -- these lines are guarded
  abbrev AreKept : Lines → Type 0
  AreKept es = AllByRecursion (λ (e : Dbkey × List ℕ). is_guarded got (line_node e.0) ≡ true) es

  -- ---- a line

  guarded-put : (key : Dbkey) (image : Option (List ℕ)) (areas : List (ℕ × List Dbkey)) (h : Held) → is_guarded got (line_node key) ≡ true →
      ((a : ℕ) (keys : List Dbkey) → find nat_cmp a areas ≡ Some keys → is_guarded got (area_node a) ≡ true) → IsGuarded got (knows h) →
      IsGuarded got (knows (record h { lines = put dbkey_order key image h.lines; areas = areas }))
  guarded-put key image areas h own these g = record {
    line = λ k what e. at k what (is_eq (dbkey_order k key)) refl (sym (behind k) ∙ e);
    area = these;
    room = λ room k e. let found = room_is (put dbkey_order key image h.lines) (find room_order room h.rooms) k e in
        lodged room k found (is_eq (dbkey_order k key)) refl (ap (unless_present k) (sym (behind k)) ∙ (sym (ap (usable (put dbkey_order key image h.lines)) found) ∙ e));
  }
    where
      behind : (k : Dbkey) → find dbkey_order k (put dbkey_order key image h.lines) ≡ cond (is_eq (dbkey_order k key)) (Some image) (find dbkey_order k h.lines)
      behind k = find-put dbkey_order dbkey_total k key image h.lines

      same : (k : Dbkey) → is_eq (dbkey_order k key) ≡ true → is_guarded got (line_node k) ≡ true
      same k e = subst (λ (x : Dbkey). is_guarded got (line_node x) ≡ true) (sym (same_dbkey k key (equal (dbkey_order k key) e))) own

      at : (k : Dbkey) (what : Option (List ℕ)) (b : Bool) → is_eq (dbkey_order k key) ≡ b → cond (is_eq (dbkey_order k key)) (Some image) (find dbkey_order k h.lines) ≡ Some what → is_guarded got (line_node k) ≡ true
      at k what true e found = same k e
      at k what false e found = g.line k what (sym (ap (λ b. cond b (Some image) (find dbkey_order k h.lines)) e) ∙ found)

      lodged : (room : Room) (k : Dbkey) → find room_order room h.rooms ≡ Some k → (b : Bool) → is_eq (dbkey_order k key) ≡ b →
          unless_present k (cond (is_eq (dbkey_order k key)) (Some image) (find dbkey_order k h.lines)) ≡ Some k → is_guarded got (line_node k) ≡ true
      lodged room k found true e free = same k e
      lodged room k found false e free = g.room room k (ap (usable h.lines) found ∙ (sym (ap (λ b. unless_present k (cond b (Some image) (find dbkey_order k h.lines))) e) ∙ free))

  guarded-line : (key : Dbkey) (image : Option (List ℕ)) (h : Held) → is_guarded got (line_node key) ≡ true → IsGuarded got (knows h) → IsGuarded got (knows (with_line key image h))
  guarded-line key image h own g = guarded-put key image h.areas h own g.area g

  -- ---- an area

  guarded-lines : (es : Lines) (h : Held) → AreKept es → IsGuarded got (knows h) → IsGuarded got (knows (with_lines es h))
  guarded-lines [] h own g = g
  guarded-lines (e ∷ es) h own g = guarded-lines es (with_line e.0 (Some e.1) h) own.1 (guarded-line e.0 (Some e.1) h own.0 g)

  lines-of-area : (a : ℕ) (all : Lines) → is_guarded got (area_node a) ≡ true → AreKept (lines_in a all)
  lines-of-area a [] own = tt
  lines-of-area a (e ∷ es) own = elim (e.0.area == a) as (λ b. (e.0.area == a) ≡ b → AreKept (cond b (e ∷ lines_in a es) (lines_in a es))) [
    | true ↦ λ is. (area-guards got e.0 (subst (λ (x : ℕ). is_guarded got (area_node x) ≡ true) (sym (eqb-true e.0.area a is)) own), lines-of-area a es own)
    | false ↦ λ is. lines-of-area a es own
  ] refl

  some-of : (es : Lines) (n : ℕ) → AreKept es → AreKept (take n es)
  some-of [] zero own = tt
  some-of [] (suc n) own = tt
  some-of (e ∷ es) zero own = tt
  some-of (e ∷ es) (suc n) own = (own.0, some-of es n own.1)

  -- some of its lines
  guarded-some : (a : ℕ) (all : Lines) (n : ℕ) (h : Held) → is_guarded got (area_node a) ≡ true → IsGuarded got (knows h) → IsGuarded got (knows (with_lines (take n (lines_in a all)) h))
  guarded-some a all n h own g = guarded-lines (take n (lines_in a all)) h (some-of (lines_in a all) n (lines-of-area a all own)) g

  guarded-area : (a : ℕ) (all : Lines) (h : Held) → is_guarded got (area_node a) ≡ true → IsGuarded got (knows h) → IsGuarded got (knows (with_area a (lines_in a all) h))
  guarded-area a all h own g = record {
    line = lines.line;
    area = λ x keys e. at x keys (is_eq (nat_cmp x a)) refl (sym (find-put nat_cmp nat_cmp_total x a (ordered (keys_of (lines_in a all))) (with_lines (lines_in a all) h).areas) ∙ e);
    room = lines.room;
  }
    where
      lines : IsGuarded got (knows (with_lines (lines_in a all) h))
      lines = guarded-lines (lines_in a all) h (lines-of-area a all own) g

      at : (x : ℕ) (keys : List Dbkey) (b : Bool) → is_eq (nat_cmp x a) ≡ b → cond (is_eq (nat_cmp x a)) (Some (ordered (keys_of (lines_in a all)))) (find nat_cmp x (with_lines (lines_in a all) h).areas) ≡ Some keys → is_guarded got (area_node x) ≡ true
      at x keys true e found = subst (λ (y : ℕ). is_guarded got (area_node y) ≡ true) (sym (eqb-true x a (sym (unsigned_tied x a) ∙ e))) own
      at x keys false e found = lines.area x keys (sym (ap (λ b. cond b (Some (ordered (keys_of (lines_in a all)))) (find nat_cmp x (with_lines (lines_in a all) h).areas)) e) ∙ found)

  -- ---- what is read

  -- a line is known once the call is done
  pub line-read : (sight : Sight) (s : ℕ) (r : Result Progress ReadStop) (key : Dbkey) (old new : Held) → (r ≡ Ok Done → LearnsLine sight s key old new) → ((r ≡ Ok Done → ⊥) → new ≡ old) →
      is_guarded got (line_node key) ≡ true → IsGuarded got (knows old) → IsGuarded got (knows new)
  line-read sight s r key old new done not_yet own g = elim (done-or r) [
    | inl e ↦ let line = done e in subst (λ (h : Held). IsGuarded got (knows h)) (sym line.learnt) (guarded-line key line.image old own g)
    | inr e ↦ subst (λ (h : Held). IsGuarded got (knows h)) (sym (not_yet e)) g
  ]

  -- some lines of an area are known before all are
  pub area-read : (sight : Sight) (s : ℕ) (r : Result Progress ReadStop) (a : ℕ) (old new : Held) → (r ≡ Ok Done → LearnsArea sight s a old new) → ((r ≡ Ok Done → ⊥) → LearnsSome sight s a old new) →
      is_guarded got (area_node a) ≡ true → IsGuarded got (knows old) → IsGuarded got (knows new)
  area-read sight s r a old new done not_yet own g = elim (done-or r) [
    | inl e ↦ let all = done e in subst (λ (h : Held). IsGuarded got (knows h)) (sym all.learnt) (guarded-area a all.lines old own g)
    | inr e ↦ let some = not_yet e in subst (λ (h : Held). IsGuarded got (knows h)) (sym some.learnt.1) (guarded-some a some.lines some.learnt.0 old own g)
  ]

  -- ---- a write

  pub guarded-write : (key : Dbkey) (image : Option (List ℕ)) (h : Held) → may_write got (line_node key) ≡ true → IsGuarded got (knows h) → IsGuarded got (knows (with_write key image h))
  guarded-write key image h may g = guarded-put key image (with_written key (is_some image) h.areas (find nat_cmp key.area h.areas)) h (write-guards got (line_node key) may)
      (λ a keys e. known a (find nat_cmp a h.areas) refl (sym (some-written key (is_some image) h.areas (find nat_cmp key.area h.areas) a) ∙ ap is_some e)) g
    where
      known : (a : ℕ) (before : Option (List Dbkey)) → find nat_cmp a h.areas ≡ before → is_some (find nat_cmp a h.areas) ≡ true → is_guarded got (area_node a) ≡ true
      known a None e some = absurd (false≢true (sym (ap is_some e) ∙ some))
      known a (Some keys) e some = g.area a keys e

  pub guarded-nothing : IsGuarded got (knows nothing)
  guarded-nothing = record {
    line = λ key what e. absurd (none-some what e);
    area = λ area keys e. absurd (none-some keys e);
    room = λ room key e. absurd (none-some key e);
  }

  -- each of one's own writes is one's own
  pub own-at : (writes : List Write) (i : ℕ) (w : Write) → i < length writes → w ≡ get_or writes i w → AreOwn got writes → may_write got (line_node w.key) ≡ true
  own-at [] i w inside is own = absurd (omega (arith, inside))
  own-at (v ∷ ws) zero w inside is own = subst (λ (x : Write). may_write got (line_node x.key) ≡ true) (sym is) own.0
  own-at (v ∷ ws) (suc i) w inside is own = own-at ws i w (omega (arith, inside)) is own.1
