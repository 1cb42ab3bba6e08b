-- Steps of the transactions that no device call shows: each keeps the facts.
use Rattle.std.proofs.Common.{◌≡◌, ◌≢◌, ℕ, suc, ◌≤◌, ◌<◌, Bool, true, false, ◌||◌, ◌==◌, if◌then◌else◌, List, [], ◌∷◌, Option, Some, None, slice_get, ◌⊎◌, inl, inr, ⊎_elim, refl, sym, ◌∙◌, ap, subst, arith}
use Rattle.std.proofs.lemmas.Bool.{eq-eqb}
use Rattle.rdb_types.specs.declared.keys.Dbkey.{Dbkey}
use Rattle.rdb_types.specs.declared.keys.Line.{Line}
use Rattle.new_database.specs.root_file.declared.Root.{Root}
use Rattle.new_database.specs.root_file.Root.{IsRoot}
use Rattle.journal_reading.specs.journal_scan.declared.group.Group.{Group}
use Rattle.new_database.specs.Maker.{root_file}
use Rattle.stable_lines.specs.Slots.{IsMember, named}
use Rattle.stable_lines.specs.Journal.{has_group}
use Rattle.stable_lines.specs.Progress.{Open, Progress, set_going, begun}
use Rattle.stable_lines.specs.Facts.{PendingContents, IsNotOpen, IsCommitted, IsChanged, OpenFacts, Facts}

pub some_same : {A : Type 0} (a b : A) → Some a ≡ Some b → a ≡ b
some_same a b same = cc

-- another than the member has what it had
eq_from : (a b : ℕ) → (a == b) ≡ true → a ≡ b
eq_from a b h = grind arith

pub record IsHere (member s : ℕ) (o found : Option Open) : Type 0 where
  pub at : s ≡ member
  pub is : found ≡ o

pub record IsThere (member s : ℕ) (was found : Option Open) : Type 0 where
  pub apart : s ≢ member
  pub is : found ≡ was

pub going_is : (now : Progress) (member : ℕ) (o : Option Open) (s : ℕ) → IsHere member s o ((set_going member o now).going s) ⊎ IsThere member s (now.going s) ((set_going member o now).going s)
going_is now member o s = by (s == member) refl
  where
    by : (b : Bool) → (s == member) ≡ b → IsHere member s o (if s == member then o else now.going s) ⊎ IsThere member s (now.going s) (if s == member then o else now.going s)
    by true is = inl (record { at = eq_from s member is; is = ap (λ b. if b then o else now.going s) is })
    by false is = inr (record { apart = λ same. let yes_is : (s == member) ≡ true = eq-eqb s member same in let bad : true ≡ false = sym yes_is ∙ is in cc; is = ap (λ b. if b then o else now.going s) is })

pub going_there : (now : Progress) (member : ℕ) (o : Option Open) (s : ℕ) → s ≢ member → (set_going member o now).going s ≡ now.going s
going_there now member o s apart = ⊎_elim (λ here. absurd (apart here.at)) (λ there. there.is) (going_is now member o s)

pub going_here : (now : Progress) (member : ℕ) (o : Option Open) → (set_going member o now).going member ≡ o
going_here now member o = ⊎_elim (λ here. here.is) (λ there. absurd (there.apart refl)) (going_is now member o member)

none_open : (o : Option Open) (p : Open) → o ≡ None → o ≡ Some p → ⊥
none_open o p none some = let bad : None ≡ Some p = sym none ∙ some in cc

-- ---- a transaction begins

below_all : (tsn : ℕ) (gs : List Group) → ((i : ℕ) (g : Group) → slice_get gs i ≡ Some g → g.tsn.number < tsn) → has_group tsn gs ≡ false
below_all tsn [] low = refl
below_all tsn (g ∷ gs) low = step (g.tsn.number == tsn) refl (below_all tsn gs (λ i h got. low (suc i) h got))
  where
    step : (b : Bool) → (g.tsn.number == tsn) ≡ b → has_group tsn gs ≡ false → (b || has_group tsn gs) ≡ false
    step true is rest = let under : g.tsn.number < tsn = low 0 g refl in let same : g.tsn.number ≡ tsn = eq_from _ _ is in absurd (omega (arith, under, same))
    step false is rest = rest

module _ (P : PendingContents) (now : Progress) (member : ℕ) (is_member : IsMember member) (idle : now.going member ≡ None) (some : 1 ≤ now.next_tsn) (was : Facts P now) where
  new : Open
  new = record { tsn = record { number = now.next_tsn }; entries = [] }

  others : (s : ℕ) (o : Open) → now.going s ≡ Some o → (begun member now).going s ≡ Some o
  others s o is = going_there now member _ s (λ same. none_open (now.going member) o idle (ap (λ m. now.going m) (sym same) ∙ is)) ∙ is

  -- who is open is the new one, or was open
  who : (s : ℕ) (o : Open) → (begun member now).going s ≡ Some o → ((s ≡ member) × (o ≡ record { tsn = record { number = now.next_tsn }; entries = [] })) ⊎ (now.going s ≡ Some o)
  who s o is = ⊎_elim (λ here. inl (here.at, some_same _ _ (sym is ∙ here.is))) (λ there. inr (sym there.is ∙ is)) (going_is now member _ s)

  not_open : (tsn : ℕ) → tsn < now.next_tsn → IsNotOpen now tsn → IsNotOpen (begun member now) tsn
  not_open tsn low old s o is same = ⊎_elim (λ here. let at : o.tsn.number ≡ now.next_tsn = ap (λ (p : Open). p.tsn.number) here.1 in omega (arith, low, same, at)) (λ there. old s o there same) (who s o is)

  committed : (key : Dbkey) (line : Line) → line.tsn.number < now.next_tsn → IsCommitted P now key line → IsCommitted P (begun member now) key line
  committed key line low c = record { shows = c.shows; ended = c.ended; not_open = not_open line.tsn.number low c.not_open }

  changed : (key : Dbkey) (line : Line) → IsChanged P now key line → IsChanged P (begun member now) key line
  changed key line c = record {
    member = c.member;
    transaction = c.transaction;
    is_open = others c.member c.transaction c.is_open;
    tsn = c.tsn;
    index = c.index;
    before = c.before;
    entry = c.entry;
    committed = committed key c.before c.below c.committed;
    below = (let low : c.before.tsn.number < now.next_tsn = c.below in omega (arith, low));
    one = c.one;
  }

  open_was : (s : ℕ) (o : Open) → now.going s ≡ Some o → OpenFacts P now s o → OpenFacts P (begun member now) s o
  open_was s o is old = record {
    is_member = old.is_member;
    number = old.number;
    no_group = old.no_group;
    names = old.names;
    only = old.only;
    alone = λ t p same n. ⊎_elim (λ here. let low : o.tsn.number < now.next_tsn = was.below.going s o is in let at : p.tsn.number ≡ now.next_tsn = ap (λ (q : Open). q.tsn.number) here.1 in absurd (omega (arith, low, n, at))) (λ there. old.alone t p there n) (who t p same);
    entry = old.entry;
  }

  open_new : OpenFacts P (begun member now) member (record { tsn = record { number = now.next_tsn }; entries = [] })
  open_new = record {
    is_member = is_member;
    number = some;
    no_group = below_all now.next_tsn now.journal.groups was.below.group;
    names = λ h le p. absurd (omega (arith, le));
    only = λ other h is p n. let low : named h < now.next_tsn = was.below.header other h is p in absurd (omega (arith, low, n));
    alone = λ t p same n. ⊎_elim (λ here. here.0) (λ there. let low : p.tsn.number < now.next_tsn = was.below.going t p there in absurd (omega (arith, low, n))) (who t p same);
    entry = λ i undo x got p. let bad : None ≡ Some undo = got in absurd (cc);
  }

  pub begins : ((x : List ℕ) (r : Root) → P root_file 0 x → IsRoot x r → now.next_tsn < r.ceiling) → Facts P (begun member now)
  begins room = record {
    in_order = was.in_order;
    alone = was.alone;
    line = λ key x p. ⊎_elim (λ c. inl (committed key _ (was.below.line key x p) c)) (λ c. inr (changed key _ c)) (was.line key x p);
    going = λ s o is. ⊎_elim (λ here. subst (λ (q : Open). OpenFacts P (begun member now) s q) (sym here.1) (subst (λ t. OpenFacts P (begun member now) t (record { tsn = record { number = now.next_tsn }; entries = [] })) (sym here.0) open_new)) (λ there. open_was s o there (was.going s o there)) (who s o is);
    journal = record { header = was.journal.header; groups = was.journal.groups; commits = λ slot x part le p stands none. ⊎_elim (λ lt. inl lt) (λ fly. inr (record { flight = fly.flight; is = fly.is; in_place = fly.in_place; is_commit = fly.is_commit })) (was.journal.commits slot x part le p stands none) };
    former = λ j is. let old = was.former j is in record { empty = old.empty; no_flight = old.no_flight; groups = old.groups; commits = old.commits; headers = old.headers; below = λ i g got. let low : g.tsn.number < now.next_tsn = old.below i g got in omega (arith, low) };
    flight = λ f is. let old = was.flight f is in record { transaction = old.transaction; is_open = others f.member old.transaction old.is_open; tsn = old.tsn; whole = old.whole; stand = old.stand; changed = old.changed; landed = old.landed; class = old.class };
    root = λ x p. let old = was.root x p in record { root = old.root; is = old.is; limits = old.limits; state = old.state; ceiling = (let top : now.next_tsn < old.root.ceiling = room x old.root p old.is in omega (arith, top)); restored = old.restored };
    pages = record { page = was.pages.page; space = was.pages.space; header = was.pages.header; owner = was.pages.owner; past = was.pages.past; class = was.pages.class };
    below = record {
      line = λ key x p. let low = was.below.line key x p in omega (arith, low);
      header = λ m h is p. let low = was.below.header m h is p in omega (arith, low);
      entry = λ m slot x e is le p read. let low = was.below.entry m slot x e is le p read in omega (arith, low);
      group = λ i g got. let low = was.below.group i g got in omega (arith, low);
      going = λ s o is. ⊎_elim (λ here. let at : o.tsn.number ≡ now.next_tsn = ap (λ (q : Open). q.tsn.number) here.1 in omega (arith, at)) (λ there. let low = was.below.going s o there in omega (arith, low)) (who s o is);
    };
  }
