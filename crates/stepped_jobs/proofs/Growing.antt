-- What is known grows as lines and areas are read, so that each map with which it agrees agrees with what was known before.
use Rattle.std.proofs.Common.{◌≡◌, ℕ, Bool, true, false, cond, List, [], ◌∷◌, take, Option, Some, None, Result, Ok, inl, inr, refl, sym, ap, subst, ◌∙◌, is_some}
use Rattle.std.specs.Ordering.{is_eq, nat_cmp}
use Rattle.std.specs.Cmp.{nat_cmp_total}
use Rattle.std.specs.FinMap.Entries.{find, find-put}
use Rattle.std.proofs.lemmas.Bool.{false≢true}
use Rattle.std.proofs.lemmas.Option.{none-some}
use Rattle.rdb_types.specs.declared.keys.Dbkey.{Dbkey}
use Rattle.rdb_types.specs.Order.{dbkey_order}
use Rattle.rdb_types.specs.OrderLaws.{dbkey_total}
use Rattle.line_view.specs.declared.need.Room.{Room}
use Rattle.line_view.specs.Knowledge.{Lines, Agrees, lines_in, keys_of}
use Rattle.line_view.specs.Held.{Held, knows, usable, unless_present, ordered, with_line, with_lines, with_area, room_order}
use Rattle.line_view.proofs.Agreements.{room_is}
use Rattle.line_store.specs.declared.answers.Progress.{Progress}
use Rattle.line_store.specs.declared.answers.Progress.TheVariants.{Done}
use Rattle.line_store.specs.declared.answers.ReadStop.{ReadStop}
use Rattle.line_store.specs.Sights.{Sight, LearnsLine, LearnsArea, LearnsSome}
use Rattle.stepped_jobs.specs.More.{KnowsMore}
use Rattle.stepped_jobs.proofs.Guarding.{done-or}

more-refl : (h : Held) → KnowsMore h h
more-refl h = record { lines = λ key e. e; areas = λ area e. e; rooms = refl }

more-on : (a b c : Held) → KnowsMore a b → KnowsMore b c → KnowsMore a c
more-on a b c x y = record { lines = λ key e. y.lines key (x.lines key e); areas = λ area e. y.areas area (x.areas area e); rooms = y.rooms ∙ x.rooms }

some-put : {A : Type 0} (b : Bool) (x : A) (was : Option A) → is_some was ≡ true → is_some (cond b (Some x) was) ≡ true
some-put true x was h = refl
some-put false x was h = h

more-line : (key : Dbkey) (image : Option (List ℕ)) (h : Held) → KnowsMore h (with_line key image h)
more-line key image h = record {
  lines = λ k e. ap is_some (find-put dbkey_order dbkey_total k key image h.lines) ∙ some-put (is_eq (dbkey_order k key)) image (find dbkey_order k h.lines) e;
  areas = λ area e. e;
  rooms = refl;
}

more-lines : (es : Lines) (h : Held) → KnowsMore h (with_lines es h)
more-lines [] h = more-refl h
more-lines (e ∷ es) h = more-on h (with_line e.0 (Some e.1) h) (with_lines es (with_line e.0 (Some e.1) h)) (more-line e.0 (Some e.1) h) (more-lines es (with_line e.0 (Some e.1) h))

more-area : (area : ℕ) (es : Lines) (h : Held) → KnowsMore h (with_area area es h)
more-area area es h =
    let lines = more-lines es h in
    record {
      lines = lines.lines;
      areas = λ a e. ap is_some (find-put nat_cmp nat_cmp_total a area (ordered (keys_of es)) (with_lines es h).areas) ∙ some-put (is_eq (nat_cmp a area)) (ordered (keys_of es)) (find nat_cmp a (with_lines es h).areas) (lines.areas a e);
      rooms = lines.rooms;
    }

-- ---- what is read

module _ (sight : Sight) (s : ℕ) (r : Result Progress ReadStop) (old new : Held) where
  pub line-grows : (key : Dbkey) → (r ≡ Ok Done → LearnsLine sight s key old new) → ((r ≡ Ok Done → ⊥) → new ≡ old) → KnowsMore old new
  line-grows key done not_yet = elim (done-or r) [
    | inl e ↦ let line = done e in subst (KnowsMore old) (sym line.learnt) (more-line key line.image old)
    | inr e ↦ subst (KnowsMore old) (sym (not_yet e)) (more-refl old)
  ]

  pub area-grows : (area : ℕ) → (r ≡ Ok Done → LearnsArea sight s area old new) → ((r ≡ Ok Done → ⊥) → LearnsSome sight s area old new) → KnowsMore old new
  area-grows area done not_yet = elim (done-or r) [
    | inl e ↦ let all = done e in subst (KnowsMore old) (sym all.learnt) (more-area area (lines_in area all.lines) old)
    | inr e ↦ let some = not_yet e in subst (KnowsMore old) (sym some.learnt.1) (more-lines (take some.learnt.0 (lines_in area some.lines)) old)
  ]

-- ---- maps

the-some : {A : Type 0} (x : Option A) → is_some x ≡ true → (v : A) × (x ≡ Some v)
the-some (Some v) h = (v, refl)
the-some None h = absurd (false≢true h)

-- where what is known is not that the line is present, it is still a room's
still-room : (key : Dbkey) (x : Option (Option (List ℕ))) → ((image : List ℕ) → x ≡ Some (Some image) → ⊥) → unless_present key x ≡ Some key
still-room key None h = refl
still-room key (Some None) h = refl
still-room key (Some (Some image)) h = absurd (h image refl)

-- Both agree with the same map, and more is known: what agrees with the more agrees with what was known before.
pub agrees-before : (old new : Held) (seen all : Lines) → KnowsMore old new → Agrees (knows old) seen → Agrees (knows new) seen → Agrees (knows new) all → Agrees (knows old) all
agrees-before old new seen all more was now is = record {
  line = λ key what e.
      let v = the-some (find dbkey_order key new.lines) (more.lines key (ap is_some e)) in
      was.line key what e ∙ (sym (now.line key v.0 v.1) ∙ is.line key v.0 v.1);
  area = λ area keys e.
      let v = the-some (find nat_cmp area new.areas) (more.areas area (ap is_some e)) in
      was.area area keys e ∙ (sym (now.area area v.0 v.1) ∙ is.area area v.0 v.1);
  within = was.within;
  free = λ room key e. is.free room key (room-still room key e);
  apart = was.apart;
}
  where
    room-still : (room : Room) (key : Dbkey) → (knows old).room room ≡ Some key → (knows new).room room ≡ Some key
    room-still room key e =
        ap (λ (rs : List (Room × Dbkey)). usable new.lines (find room_order room rs)) more.rooms
        ∙ (ap (usable new.lines) (room_is old.lines (find room_order room old.rooms) key e)
        ∙ still-room key (find dbkey_order key new.lines) (λ image f. none-some image (sym (was.free room key e) ∙ sym (now.line key (Some image) f))))
