-- A transaction ends: undone, or with its group.
use Rattle.std.proofs.Common.{◌≡◌, ◌≢◌, ℕ, ◌+◌, ◌≤◌, ◌<◌, Bool, true, false, ◌||◌, ◌==◌, List, [], ◌∷◌, ◌++◌, length, Option, Some, None, slice_get, ◌⊎◌, inl, inr, ⊎_elim, refl, sym, ◌∙◌, ap, subst, arith, length-append}
use Rattle.std.proofs.lemmas.Bool.{eq-eqb}
use Rattle.rdb_types.specs.declared.keys.Dbkey.{Dbkey}
use Rattle.rdb_types.specs.declared.keys.Tsn.{Tsn}
use Rattle.rdb_types.specs.declared.keys.Line.{Line}
use Rattle.new_database.specs.aij_journal.declared.part.AijPart.{AijPart}
use Rattle.journal_reading.specs.journal_scan.declared.group.Group.{Group}
use Rattle.journal_reading.specs.journal_scan.Standing.{what_stands}
use Rattle.journal_reading.specs.journal_scan.Whole.{slots_of}
use Rattle.line_view.specs.Knowledge.{line_in}
use Rattle.new_database.specs.Maker.{aij_file}
use Rattle.stable_lines.specs.Slots.{line_on, Undo}
use Rattle.stable_lines.specs.Journal.{slots_in, next_number, next_slot, has_group, commit_of}
use Rattle.stable_lines.specs.Progress.{Open, Flight, Progress, without, flying, fallen, landed, lines_with, journal_with}
use Rattle.stable_lines.specs.Facts.{PendingContents, OnPage, HasEnded, IsCommitted, IsChanged, IsFlying, JournalFacts, FlightFacts, HasLanded, IsInGroup, Facts}
use Rattle.stable_lines.proofs.Lists.{got_either, got_one}
use Rattle.stable_lines.proofs.Laying.{IsLaid, IsLeft, found_behind, grouped_behind, laid_in_order}
use Rattle.stable_lines.proofs.Groups.{before_or_commit, whole_behind, of_either}
use Rattle.stable_lines.proofs.Turns.{some_same, going_is, going_there}

-- who is open without the member was open
who : (now : Progress) (member s : ℕ) (p : Open) → (without member now).going s ≡ Some p → (s ≢ member) × (now.going s ≡ Some p)
who now member s p same = ⊎_elim (λ here. let bad : None ≡ Some p = sym here.is ∙ same in absurd (cc)) (λ there. (there.apart, sym there.is ∙ same)) (going_is now member None s)

-- ---- undone: no line that a crash may leave bears it

pub undone : (P : PendingContents) (now : Progress) (member : ℕ) (o : Open) → now.going member ≡ Some o → ((key : Dbkey) (x : List ℕ) → OnPage P key x → (line_on key x).tsn.number ≢ o.tsn.number) → ((f : Flight) → now.flight ≡ Some f → f.member ≢ member) → Facts P now → Facts P (without member now)
undone P now member o is none apart was = record {
  in_order = was.in_order;
  alone = was.alone;
  line = λ key x p. ⊎_elim (λ c. inl (committed key _ c)) (λ c. inr (changed key x p c)) (was.line key x p);
  going = λ s p same. let w = who now member s p same in let old = was.going s p w.1 in record { is_member = old.is_member; number = old.number; no_group = old.no_group; names = old.names; only = old.only; alone = λ t q other n. old.alone t q (who now member t q other).1 n; entry = old.entry };
  journal = record { header = was.journal.header; groups = was.journal.groups; commits = λ slot x part le p shows line. ⊎_elim (λ lt. inl lt) (λ fly. inr (record { flight = fly.flight; is = fly.is; in_place = fly.in_place; is_commit = fly.is_commit })) (was.journal.commits slot x part le p shows line) };
  former = λ j same. let old = was.former j same in record { empty = old.empty; no_flight = old.no_flight; groups = old.groups; commits = old.commits; headers = old.headers; below = old.below };
  flight = λ f same. let old = was.flight f same in record { transaction = old.transaction; is_open = going_there now member None f.member (apart f same) ∙ old.is_open; tsn = old.tsn; whole = old.whole; stand = old.stand; changed = old.changed; landed = old.landed; class = old.class };
  root = λ x p. let old = was.root x p in record { root = old.root; is = old.is; limits = old.limits; state = old.state; ceiling = old.ceiling; restored = old.restored };
  pages = record { page = was.pages.page; space = was.pages.space; header = was.pages.header; owner = was.pages.owner; past = was.pages.past; class = was.pages.class };
  below = record { line = was.below.line; header = was.below.header; entry = was.below.entry; group = was.below.group; going = λ s p same. was.below.going s p (who now member s p same).1 };
}
  where
    committed : (key : Dbkey) (line : Line) → IsCommitted P now key line → IsCommitted P (without member now) key line
    committed key line c = record { shows = c.shows; ended = c.ended; not_open = λ s p same. c.not_open s p (who now member s p same).1 }

    changed : (key : Dbkey) (x : List ℕ) → OnPage P key x → IsChanged P now key (line_on key x) → IsChanged P (without member now) key (line_on key x)
    changed key x there c = record {
      member = c.member;
      transaction = c.transaction;
      is_open = going_there now member None c.member not_it ∙ c.is_open;
      tsn = c.tsn;
      index = c.index;
      before = c.before;
      entry = c.entry;
      committed = committed key c.before c.committed;
      below = c.below;
      one = c.one;
    }
      where
        not_it : c.member ≢ member
        not_it same = let this : c.transaction ≡ o = some_same _ _ (sym c.is_open ∙ ap (λ m. now.going m) same ∙ is) in none key x there (ap (λ (t : Tsn). t.number) c.tsn ∙ ap (λ (p : Open). p.tsn.number) this)

-- ---- a group is on its way

module _ (P : PendingContents) (now : Progress) where
  pub in_flight : (f g : Flight) → f ≡ g → FlightFacts P now f → FlightFacts P (flying f now) g
  in_flight f g same old = subst (λ (h : Flight). FlightFacts P (flying f now) h) same (record { transaction = old.transaction; is_open = old.is_open; tsn = old.tsn; whole = old.whole; stand = old.stand; changed = old.changed; landed = old.landed; class = old.class })

  -- before its commit slot is written
  pub takes_off : (f : Flight) → now.flight ≡ None → now.former ≡ None → FlightFacts P now f → Facts P now → Facts P (flying f now)
  takes_off f no_flight no_former flight was = record {
    in_order = was.in_order;
    alone = was.alone;
    line = λ key x p. ⊎_elim (λ c. inl (record { shows = c.shows; ended = c.ended; not_open = c.not_open })) (λ c. inr (record { member = c.member; transaction = c.transaction; is_open = c.is_open; tsn = c.tsn; index = c.index; before = c.before; entry = c.entry; committed = record { shows = c.committed.shows; ended = c.committed.ended; not_open = c.committed.not_open }; below = c.below; one = c.one })) (was.line key x p);
    going = λ s p is. let old = was.going s p is in record { is_member = old.is_member; number = old.number; no_group = old.no_group; names = old.names; only = old.only; alone = old.alone; entry = old.entry };
    journal = record { header = was.journal.header; groups = was.journal.groups; commits = λ slot x part le p shows line. ⊎_elim (λ lt. inl lt) (λ fly. let bad : None ≡ Some fly.flight = sym no_flight ∙ fly.is in absurd (cc)) (was.journal.commits slot x part le p shows line) };
    former = λ j same. let bad : None ≡ Some j = sym no_former ∙ same in absurd (cc);
    flight = λ g same. in_flight f g (some_same f g same) flight;
    root = λ x p. let old = was.root x p in record { root = old.root; is = old.is; limits = old.limits; state = old.state; ceiling = old.ceiling; restored = old.restored };
    pages = record { page = was.pages.page; space = was.pages.space; header = was.pages.header; owner = was.pages.owner; past = was.pages.past; class = was.pages.class };
    below = record { line = was.below.line; header = was.below.header; entry = was.below.entry; group = was.below.group; going = was.below.going };
  }

  -- its commit slot did not come to stand: no content of the journal is one
  pub falls : ((slot : ℕ) (x : List ℕ) (part : AijPart) → 1 ≤ slot → P aij_file slot x → what_stands x ≡ Some part → part.line ≡ None → part.number < next_number now.journal) → Facts P now → Facts P (fallen now)
  falls low was = record {
    in_order = was.in_order;
    alone = was.alone;
    line = λ key x p. ⊎_elim (λ c. inl (record { shows = c.shows; ended = c.ended; not_open = c.not_open })) (λ c. inr (record { member = c.member; transaction = c.transaction; is_open = c.is_open; tsn = c.tsn; index = c.index; before = c.before; entry = c.entry; committed = record { shows = c.committed.shows; ended = c.committed.ended; not_open = c.committed.not_open }; below = c.below; one = c.one })) (was.line key x p);
    going = λ s p is. let old = was.going s p is in record { is_member = old.is_member; number = old.number; no_group = old.no_group; names = old.names; only = old.only; alone = old.alone; entry = old.entry };
    journal = record { header = was.journal.header; groups = was.journal.groups; commits = λ slot x part le p shows line. inl (low slot x part le p shows line) };
    former = λ j same. let old = was.former j same in record { empty = old.empty; no_flight = refl; groups = old.groups; commits = old.commits; headers = old.headers; below = old.below };
    flight = λ g same. let bad : None ≡ Some g = same in absurd (cc);
    root = λ x p. let old = was.root x p in record { root = old.root; is = old.is; limits = old.limits; state = old.state; ceiling = old.ceiling; restored = old.restored };
    pages = record { page = was.pages.page; space = was.pages.space; header = was.pages.header; owner = was.pages.owner; past = was.pages.past; class = was.pages.class };
    below = record { line = was.below.line; header = was.below.header; entry = was.below.entry; group = was.below.group; going = was.below.going };
  }

-- ---- the group stands

or_true : (b : Bool) → (b || true) ≡ true
or_true true = refl
or_true false = refl

eq_from : (a b : ℕ) → (a == b) ≡ true → a ≡ b
eq_from a b h = grind arith

module _ (P : PendingContents) (now : Progress) (f : Flight) (is : now.flight ≡ Some f) (stands : (x : List ℕ) → P aij_file (next_slot now.journal + length f.group.lines) x → what_stands x ≡ commit_of f.group) (was : Facts P now) where
  flight : FlightFacts P now f
  flight = was.flight f is

  abbrev old : List Group
  old = now.journal.groups

  ended_more : (tsn : ℕ) → HasEnded P now tsn → HasEnded P (landed f now) tsn
  ended_more tsn was member h is_member le p n = grouped_behind tsn old f.group ∙ ap (λ b. b || (f.group.tsn.number == tsn)) (was member h is_member le p n)

  landed_ends : (tsn : ℕ) → tsn ≡ f.group.tsn.number → HasEnded P (landed f now) tsn
  landed_ends tsn same member h is_member le p n = grouped_behind tsn old f.group ∙ ap (λ b. has_group tsn old || b) (eq-eqb f.group.tsn.number tsn (sym same)) ∙ or_true (has_group tsn old)

  -- another open transaction has another number
  apart_from : (s : ℕ) (o : Open) → s ≢ f.member → now.going s ≡ Some o → f.group.tsn.number ≢ o.tsn.number
  apart_from s o apart open_now same = apart (sym ((was.going s o open_now).alone f.member flight.transaction flight.is_open (sym (ap (λ (t : Tsn). t.number) flight.tsn) ∙ same)))

  no_group_more : (o : Open) → has_group o.tsn.number old ≡ false → f.group.tsn.number ≢ o.tsn.number → has_group o.tsn.number (old ++ f.group ∷ []) ≡ false
  no_group_more o none apart = grouped_behind o.tsn.number old f.group ∙ ap (λ b. b || (f.group.tsn.number == o.tsn.number)) none ∙ differ (f.group.tsn.number == o.tsn.number) refl
    where
      differ : (b : Bool) → (f.group.tsn.number == o.tsn.number) ≡ b → b ≡ false
      differ true same = absurd (apart (eq_from _ _ same))
      differ false same = refl

  committed : (key : Dbkey) (line : Line) → line_in key (lines_with now f) ≡ line_in key now.lines → IsCommitted P now key line → IsCommitted P (landed f now) key line
  committed key line same c = record { shows = c.shows ∙ sym same; ended = ended_more line.tsn.number c.ended; not_open = λ s p q. c.not_open s p (who now f.member s p q).1 }

  line : (key : Dbkey) (x : List ℕ) → OnPage P key x → IsCommitted P (landed f now) key (line_on key x) ⊎ IsChanged P (landed f now) key (line_on key x)
  line key x there = ⊎_elim laid left (found_behind key f.group.lines now.lines)
    where
      laid : IsLaid key f.group.lines now.lines → IsCommitted P (landed f now) key (line_on key x) ⊎ IsChanged P (landed f now) key (line_on key x)
      laid l =
          let at : HasLanded f.group l.line (line_on l.line.key x) = flight.landed l.index l.line x l.is (subst (λ (k : Dbkey). OnPage P k x) (sym l.same_key) there) in
          let here : HasLanded f.group l.line (line_on key x) = subst (λ (k : Dbkey). HasLanded f.group l.line (line_on k x)) l.same_key at in
          let number : (line_on key x).tsn.number ≡ f.group.tsn.number = ap (λ (t : Tsn). t.number) here.tsn in
          inl (record { shows = here.shows ∙ sym l.found; ended = landed_ends _ number; not_open = λ s p q same. let w = who now f.member s p q in apart_from s p w.0 w.1 (sym number ∙ same) })

      changed : IsLeft key f.group.lines now.lines → IsChanged P now key (line_on key x) → IsChanged P (landed f now) key (line_on key x)
      changed l c = record {
        member = c.member;
        transaction = c.transaction;
        is_open = going_there now f.member None c.member not_it ∙ c.is_open;
        tsn = c.tsn;
        index = c.index;
        before = c.before;
        entry = c.entry;
        committed = committed key c.before l.found c.committed;
        below = c.below;
        one = c.one;
      }
        where
          not_it : c.member ≢ f.member
          not_it same =
              let this : flight.transaction ≡ c.transaction = some_same _ _ (sym flight.is_open ∙ ap (λ m. now.going m) (sym same) ∙ c.is_open) in
              let in_it : IsInGroup f.group key = flight.changed c.index (record { key = key; before = c.before }) (ap (λ (o : Open). slice_get o.entries c.index) this ∙ c.entry) in
              l.none in_it.index in_it.line in_it.is in_it.same_key

      left : IsLeft key f.group.lines now.lines → IsCommitted P (landed f now) key (line_on key x) ⊎ IsChanged P (landed f now) key (line_on key x)
      left l = ⊎_elim (λ c. inl (committed key _ l.found c)) (λ c. inr (changed l c)) (was.line key x there)

  next_behind : next_number (journal_with now f) ≡ next_number now.journal + 1
  next_behind = let long : length (now.journal.groups ++ f.group ∷ []) ≡ length now.journal.groups + 1 = length-append now.journal.groups (f.group ∷ []) in ap (λ n. now.journal.first + n) long ∙ (let same : now.journal.first + (length now.journal.groups + 1) ≡ now.journal.first + length now.journal.groups + 1 = omega arith in same)

  journal : JournalFacts P (landed f now)
  journal = record {
    header = was.journal.header;
    groups = record {
      whole = whole_behind now.journal.first old f.group was.journal.groups.whole flight.whole;
      stand = λ i what x got p. ⊎_elim (λ front. was.journal.groups.stand i what x front p) (λ later. behind i what x later.0 later.1 later.2 p) (of_either old f.group i what got);
    };
    commits = λ slot x part le p shows none. inl (⊎_elim (λ (lt : part.number < next_number now.journal). omega (arith, lt, next_behind)) (flown slot part) (was.journal.commits slot x part le p shows none));
  }
    where
      behind : (i : ℕ) (what : Option AijPart) (x : List ℕ) (k : ℕ) → i ≡ length (slots_in now.journal) + k → slice_get (slots_of f.group) k ≡ Some what → P aij_file (i + 1) x → what_stands x ≡ what
      behind i what x k at got p =
          let place : i + 1 ≡ next_slot now.journal + k = omega (arith, at) in
          let here : P aij_file (next_slot now.journal + k) x = subst (λ n. P aij_file n x) place p in
          ⊎_elim (λ lt. flight.stand k what x lt got here) (λ last. stands x (subst (λ n. P aij_file (next_slot now.journal + n) x) last.0 here) ∙ sym last.1) (before_or_commit f.group k what got)

      flown : (slot : ℕ) (part : AijPart) → IsFlying now slot part → part.number < next_number (journal_with now f)
      flown slot part fly =
          let this : fly.flight ≡ f = some_same _ _ (sym fly.is ∙ is) in
          let commit : Some part ≡ commit_of f.group = fly.is_commit ∙ ap (λ (g : Flight). commit_of g.group) this in
          let number : part.number ≡ f.group.number = ap (λ (p : AijPart). p.number) (some_same _ _ commit) in
          let next : f.group.number ≡ next_number now.journal = flight.whole.numbered in
          omega (arith, number, next, next_behind)

  pub lands : Facts P (landed f now)
  lands = record {
    in_order = laid_in_order f.group.lines now.lines was.in_order;
    alone = was.alone;
    line = line;
    going = λ s o same. let w = who now f.member s o same in let had = was.going s o w.1 in record { is_member = had.is_member; number = had.number; no_group = no_group_more o had.no_group (apart_from s o w.0 w.1); names = had.names; only = had.only; alone = λ t q other n. had.alone t q (who now f.member t q other).1 n; entry = had.entry };
    journal = journal;
    former = λ j same. let none : now.flight ≡ None = (was.former j same).no_flight in let bad : None ≡ Some f = sym none ∙ is in absurd (cc);
    flight = λ g same. let bad : None ≡ Some g = same in absurd (cc);
    root = λ x p. let had = was.root x p in record { root = had.root; is = had.is; limits = had.limits; state = had.state; ceiling = had.ceiling; restored = had.restored };
    pages = record { page = was.pages.page; space = was.pages.space; header = was.pages.header; owner = was.pages.owner; past = was.pages.past; class = flight.class };
    below = record { line = was.below.line; header = was.below.header; entry = was.below.entry; group = group; going = λ s p same. was.below.going s p (who now f.member s p same).1 };
  }
    where
      group : (i : ℕ) (g : Group) → slice_get (old ++ f.group ∷ []) i ≡ Some g → g.tsn.number < now.next_tsn
      group i g got = ⊎_elim (was.below.group i g) (λ later. this (got_one f.group g later.0 later.2).1) (got_either old (f.group ∷ []) i g got)
        where
          this : f.group ≡ g → g.tsn.number < now.next_tsn
          this same = subst (λ (h : Group). h.tsn.number < now.next_tsn) same (subst (λ (t : Tsn). t.number < now.next_tsn) (sym flight.tsn) (was.below.going f.member flight.transaction flight.is_open))

-- ---- what shows that a transaction is undone, and that a group may take off

-- no line that a crash may leave bears it, where none of its own lines does
pub no_line_bears : (P : PendingContents) (now : Progress) (member : ℕ) (o : Open) → now.going member ≡ Some o → Facts P now → ((i : ℕ) (undo : Undo) (x : List ℕ) → slice_get o.entries i ≡ Some undo → OnPage P undo.key x → (line_on undo.key x).tsn.number ≢ o.tsn.number) → (key : Dbkey) (x : List ℕ) → OnPage P key x → (line_on key x).tsn.number ≢ o.tsn.number
no_line_bears P now member o is was own key x there same = ⊎_elim (λ c. c.not_open member o is same) changed (was.line key x there)
  where
    changed : IsChanged P now key (line_on key x) → ⊥
    changed c =
        let number : c.transaction.tsn.number ≡ o.tsn.number = sym (ap (λ (t : Tsn). t.number) c.tsn) ∙ same in
        let at : c.member ≡ member = (was.going member o is).alone c.member c.transaction c.is_open number in
        let this : c.transaction ≡ o = some_same _ _ (sym c.is_open ∙ ap (λ m. now.going m) at ∙ is) in
        own c.index (record { key = key; before = c.before }) x (subst (λ (p : Open). slice_get p.entries c.index ≡ Some (record { key = key; before = c.before })) this c.entry) there same
