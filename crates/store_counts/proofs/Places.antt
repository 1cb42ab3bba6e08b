-- What an event leaves of a place's counts.
use Rattle.std.proofs.Common.{◌≡◌, ◌<◌, ℕ, ◌++◌, ◌∷◌, [], ◌==◌, ◌||◌, ◌&&◌, if◌then◌else◌, Bool, true, false, List, refl, ◌∙◌, sym, ap, subst, arith, Option, Some, None, is_some, inl, inr}
use Rattle.std.specs.List.{list_any}
use Rattle.std.proofs.lemmas.Bool.{false≢true, or_cases, or_left, or_right, and_parts, and_from}
use Rattle.std.proofs.lemmas.List.Folds.{list_any-append}
use Rattle.rdb_types.specs.declared.keys.Dbkey.{Dbkey}
use Rattle.rdb_types.specs.declared.node.Node.{Node}
use Rattle.rdo_ast.specs.Tree.{Uttered}
use Rattle.lock_needs.specs.declared.need.Need.{Need}
use Rattle.lock_needs.specs.Nodes.{same_node}
use Rattle.lock_needs.proofs.NodeLaws.{same_node-true}
use Rattle.rdb_account.specs.Events.{Event, Began, Wanted, Got, Demoted, Said, Committed, RolledBack, Died, Recovered}
use Rattle.rdb_account.specs.Places.{Opening, Place, Transaction, Due, nothing, commit_reply, rollback_reply, rolls_back, after, place_from, changed, wanting, ended, committed_by, behind_roll_back, next_item, is_writer, is_line, is_journal, at}
use Rattle.rdb_account.specs.Lawful.{is_taken, is_space_page, file_of}
use Rattle.kept_apart.specs.Guards.{line_node}
use Rattle.lock_ties.proofs.Places.{at-same, at-other, number}
use Rattle.line_store.specs.Seats.{set_aside}
use Rattle.line_store.specs.Shelves.{Shelf}
use Rattle.store_counts.specs.Counts.{written_of, has_wanted, is_on_line, is_claimed}
use Rattle.store_counts.specs.Events.{CountsNothing, CountNothing}

-- ---- more nodes

abbrev pub HasMore : List Node → List Node → Type 0
HasMore few more = (f : Node → Bool) → list_any f few ≡ true → list_any f more ≡ true

pub more-behind : (few more : List Node) → HasMore few (few ++ more)
more-behind few more f h = list_any-append f few more ∙ or_left (list_any f few) (list_any f more) h

pub more-same : (a b : List Node) → a ≡ b → HasMore a b
more-same a b e f h = subst (λ (ns : List Node). list_any f ns ≡ true) e h

pub taken-on : (o : Opening) (p q : Place) → HasMore p.touched q.touched → (file page : ℕ) → is_taken o p file page ≡ true → is_taken o q file page ≡ true
taken-on o p q more file page h =
    elim (or_cases (is_space_page page) (o.has_owner file page || list_any on p.touched) h) [
      | inl e ↦ or_left (is_space_page page) (o.has_owner file page || list_any on q.touched) e
      | inr e ↦ or_right (is_space_page page) (o.has_owner file page || list_any on q.touched) (elim (or_cases (o.has_owner file page) (list_any on p.touched) e) [
        | inl k ↦ or_left (o.has_owner file page) (list_any on q.touched) k
        | inr k ↦ or_right (o.has_owner file page) (list_any on q.touched) (more on k)
      ])
    ]
  where
    on : Node → Bool
    on n = (file_of n.area == file) && (n.at == page)

-- the page of a line that was touched is taken
pub touched-taken : (o : Opening) (p : Place) (key : Dbkey) → is_on_line p.touched key ≡ true → is_taken o p (file_of key.area) key.page ≡ true
touched-taken o p key h =
    or_right (is_space_page key.page) (o.has_owner (file_of key.area) key.page || list_any on p.touched)
    (or_right (o.has_owner (file_of key.area) key.page) (list_any on p.touched) (any p.touched h))
  where
    on : Node → Bool
    on n = (file_of n.area == file_of key.area) && (n.at == key.page)

    same : (a : ℕ) → (a == a) ≡ true
    same a = grind arith

    here : (n : Node) → line_node key ≡ n → on n ≡ true
    here n e = subst (λ (x : Node). on x ≡ true) e (and_from (file_of key.area == file_of key.area) (key.page == key.page) (same (file_of key.area)) (same key.page))

    any : (ns : List Node) → is_on_line ns key ≡ true → list_any on ns ≡ true
    any [] h = absurd (false≢true h)
    any (n ∷ ns) h = elim (or_cases (same_node (line_node key) n) (is_on_line ns key) h) [
      | inl e ↦ or_left (on n) (list_any on ns) (here n (same_node-true (line_node key) n e))
      | inr e ↦ or_right (on n) (list_any on ns) (any ns e)
    ]

pub claimed-more : (p q : Place) (s t : ℕ) → HasMore p.touched q.touched → HasMore (written_of (p.transaction s)) (written_of (q.transaction t)) → (key : Dbkey) → is_claimed p s key ≡ true → is_claimed q t key ≡ true
claimed-more p q s t touched written key h =
    let both = and_parts (is_on_line (written_of (p.transaction s)) key) (is_on_line p.touched key) h in
    and_from (is_on_line (written_of (q.transaction t)) key) (is_on_line q.touched key) (written (same_node (line_node key)) both.0) (touched (same_node (line_node key)) both.1)

-- ---- events that count nothing

-- The counts stay, and the lines of each transaction that is still open. For whom slots are set aside, its transaction has wanted the journal still.
pub record CountsStay (h : Shelf) (p q : Place) : Type 0 where
  pub touched : q.touched ≡ p.touched
  pub pairs : q.pairs ≡ p.pairs
  pub slots : q.slots ≡ p.slots
  pub open_still : (t : ℕ) → is_some (q.transaction t) ≡ true → is_some (p.transaction t) ≡ true
  pub written : (t : ℕ) → is_some (q.transaction t) ≡ true → written_of (q.transaction t) ≡ written_of (p.transaction t)
  pub wants : (t : ℕ) → 0 < set_aside (h.seat t) → has_wanted (p.transaction t) ≡ true → has_wanted (q.transaction t) ≡ true

pub stay-refl : (h : Shelf) (p : Place) → CountsStay h p p
stay-refl h p = record { touched = refl; pairs = refl; slots = refl; open_still = λ t e. e; written = λ t e. refl; wants = λ t aside e. e }

pub stay-on : (h : Shelf) (p q r : Place) → CountsStay h p q → CountsStay h q r → CountsStay h p r
stay-on h p q r a b = record {
  touched = b.touched ∙ a.touched;
  pairs = b.pairs ∙ a.pairs;
  slots = b.slots ∙ a.slots;
  open_still = λ t e. a.open_still t (b.open_still t e);
  written = λ t e. b.written t e ∙ a.written t (b.open_still t e);
  wants = λ t aside e. b.wants t aside (a.wants t aside e);
}

-- the same lines are written, and the journal is wanted where it was
pub record IsAlike (x y : Option Transaction) : Type 0 where
  pub written : written_of y ≡ written_of x
  pub is_open : is_some y ≡ is_some x
  pub wants : has_wanted x ≡ true → has_wanted y ≡ true

alike-same : (x y : Option Transaction) → y ≡ x → IsAlike x y
alike-same x y e = record { written = ap written_of e; is_open = ap is_some e; wants = λ h. ap has_wanted e ∙ h }

-- only what the transactions are told by is changed
pub stay-by : (h : Shelf) (p q : Place) → q.touched ≡ p.touched → q.pairs ≡ p.pairs → q.slots ≡ p.slots → ((t : ℕ) → IsAlike (p.transaction t) (q.transaction t)) → CountsStay h p q
stay-by h p q touched pairs slots same = record { touched = touched; pairs = pairs; slots = slots; open_still = λ t e. sym (same t).is_open ∙ e; written = λ t e. (same t).written; wants = λ t aside e. (same t).wants e }

-- the transaction of s is another with the same lines
pub stay-changed : (p : Place) (s : ℕ) (x y : Transaction) → p.transaction s ≡ Some x → IsAlike (Some x) (Some y) → (t : ℕ) → IsAlike (p.transaction t) (at s (Some y) p.transaction t)
stay-changed p s x y is_open same t = by (t == s) refl
  where
    by : (b : Bool) → (t == s) ≡ b → IsAlike (p.transaction t) (at s (Some y) p.transaction t)
    by true e = subst (λ (u : ℕ). IsAlike (p.transaction u) (at s (Some y) p.transaction u)) (sym (number t s e))
        (subst (λ (z : Option Transaction). IsAlike z (at s (Some y) p.transaction s)) (sym is_open) (subst (λ (z : Option Transaction). IsAlike (Some x) z) (sym (at-same s (Some y) p.transaction)) same))
    by false e = alike-same (p.transaction t) (at s (Some y) p.transaction t) (at-other s t (Some y) p.transaction e)

-- it ends, and nothing is set aside for it
pub stay-gone : (h : Shelf) (p q : Place) (s : ℕ) → q.touched ≡ p.touched → q.pairs ≡ p.pairs → q.slots ≡ p.slots → ((t : ℕ) → q.transaction t ≡ at s None p.transaction t) → set_aside (h.seat s) ≡ 0 → CountsStay h p q
stay-gone h p q s touched pairs slots gone idle = record {
  touched = touched;
  pairs = pairs;
  slots = slots;
  open_still = λ t e. ap is_some (sym (other t e)) ∙ e;
  written = λ t e. ap written_of (other t e);
  wants = λ t aside e. wanted t aside (t == s) refl e;
}
  where
    other : (t : ℕ) → is_some (q.transaction t) ≡ true → q.transaction t ≡ p.transaction t
    other t h = by (t == s) refl
      where
        by : (b : Bool) → (t == s) ≡ b → q.transaction t ≡ p.transaction t
        by true e = absurd (false≢true (sym (ap is_some (gone t ∙ subst (λ (u : ℕ). at s None p.transaction u ≡ None) (sym (number t s e)) (at-same s None p.transaction))) ∙ h))
        by false e = gone t ∙ at-other s t None p.transaction e

    none-aside : (n : ℕ) → n ≡ 0 → 0 < n → ⊥
    none-aside n e k = omega (arith, e, k)

    wanted : (t : ℕ) → 0 < set_aside (h.seat t) → (b : Bool) → (t == s) ≡ b → has_wanted (p.transaction t) ≡ true → has_wanted (q.transaction t) ≡ true
    wanted t aside true e k = absurd (none-aside (set_aside (h.seat t)) (subst (λ (u : ℕ). set_aside (h.seat u) ≡ 0) (sym (number t s e)) idle) aside)
    wanted t aside false e k = ap has_wanted (gone t ∙ at-other s t None p.transaction e) ∙ k

-- ---- each of these events

pub stay-changing : (h : Shelf) (p : Place) (s : ℕ) (f : Transaction → Transaction) (x : Option Transaction) → p.transaction s ≡ x → ((y : Transaction) → IsAlike (Some y) (Some (f y))) → CountsStay h p (changed s f x p)
stay-changing h p s f (Some x) is_open same = stay-by h p (changed s f (Some x) p) refl refl refl (stay-changed p s x (f x) is_open (same x))
stay-changing h p s f None is_open same = stay-refl h p

-- but for what else such an event says
stay-beside : (h : Shelf) (p q r : Place) → CountsStay h p q → r.touched ≡ q.touched → r.pairs ≡ q.pairs → r.slots ≡ q.slots → r.transaction ≡ q.transaction → CountsStay h p r
stay-beside h p q r stay touched pairs slots same =
    stay-on h p q r stay (stay-by h q r touched pairs slots (λ t. alike-same (q.transaction t) (r.transaction t) (ap (λ (f : ℕ → Option Transaction). f t) same)))

rolled-stays : (h : Shelf) (s : ℕ) (due : Due) (next : Option Uttered) (p : Place) → set_aside (h.seat s) ≡ 0 → CountsStay h p (behind_roll_back s due next (ended s p))
rolled-stays h s (rolls_back t) next p idle = stay-gone h p (behind_roll_back s (rolls_back t) next (ended s p)) s refl refl refl (λ u. refl) idle
rolled-stays h s nothing (Some item) p idle = stay-gone h p (behind_roll_back s nothing (Some item) (ended s p)) s refl refl refl (λ u. refl) idle
rolled-stays h s (commit_reply t) (Some item) p idle = stay-gone h p (behind_roll_back s (commit_reply t) (Some item) (ended s p)) s refl refl refl (λ u. refl) idle
rolled-stays h s (rollback_reply t) (Some item) p idle = stay-gone h p (behind_roll_back s (rollback_reply t) (Some item) (ended s p)) s refl refl refl (λ u. refl) idle
rolled-stays h s nothing None p idle = stay-gone h p (behind_roll_back s nothing None (ended s p)) s refl refl refl (λ u. refl) idle
rolled-stays h s (commit_reply t) None p idle = stay-gone h p (behind_roll_back s (commit_reply t) None (ended s p)) s refl refl refl (λ u. refl) idle
rolled-stays h s (rollback_reply t) None p idle = stay-gone h p (behind_roll_back s (rollback_reply t) None (ended s p)) s refl refl refl (λ u. refl) idle

-- whoever asks at a node goes on wanting the journal
wants-more : (n : Need) (y : Transaction) → IsAlike (Some y) (Some (wanting n y))
wants-more n y = record { written = refl; is_open = refl; wants = λ e. or_left y.wants_journal (is_journal n.node.level) e }

after-stays : (h : Shelf) (o : Opening) (p : Place) (e : Event) → CountsNothing h e → CountsStay h p (after o p e)
after-stays h o p (Began s kind) k = absurd k
after-stays h o p (Wanted s n a) k = stay-beside h p (changed s (wanting n) (p.transaction s) p) (after o p (Wanted s n a)) (stay-changing h p s (wanting n) (p.transaction s) refl (wants-more n)) refl refl refl refl
after-stays h o p (Got s n) k = absurd k
after-stays h o p (Demoted s n from to) k = stay-refl h p
after-stays h o p (Said s i c r) k = stay-beside h p (changed s _ (p.transaction s) p) (after o p (Said s i c r)) (stay-changing h p s _ (p.transaction s) refl (λ y. record { written = refl; is_open = refl; wants = λ e. e })) refl refl refl refl
after-stays h o p (Committed s m) k = absurd k
after-stays h o p (RolledBack s) k = rolled-stays h s p.due (next_item o p s) p k
after-stays h o p (Died s c) k = stay-by h p (after o p (Died s c)) refl refl refl (λ t. record { written = refl; is_open = refl; wants = λ e. e })
after-stays h o p (Recovered s true m) k = absurd k
after-stays h o p (Recovered s false m) k = stay-gone h p (after o p (Recovered s false m)) s refl refl refl (λ u. refl) k

pub events-stay : (h : Shelf) (o : Opening) (p : Place) (es : List Event) → CountNothing h es → CountsStay h p (place_from o p es)
events-stay h o p [] k = stay-refl h p
events-stay h o p (e ∷ es) k = stay-on h p (after o p e) (place_from o (after o p e) es) (after-stays h o p e k.0) (events-stay h o (after o p e) es k.1)

-- ---- touched nodes stay so, whatever happens

committed-touched : (word : List ℕ) (s m : ℕ) (x : Option Transaction) (p : Place) → (committed_by word s m x p).touched ≡ p.touched
committed-touched word s m None p = refl
committed-touched word s m (Some x) p = by (is_writer x.kind) refl
  where
    by : (b : Bool) → is_writer x.kind ≡ b → (committed_by word s m (Some x) p).touched ≡ p.touched
    by true e = rw e refl
    by false e = rw e refl

changed-touched : (s : ℕ) (f : Transaction → Transaction) (x : Option Transaction) (p : Place) → (changed s f x p).touched ≡ p.touched
changed-touched s f (Some x) p = refl
changed-touched s f None p = refl

rolled-touched : (s : ℕ) (due : Due) (next : Option Uttered) (p : Place) → (behind_roll_back s due next (ended s p)).touched ≡ p.touched
rolled-touched s (rolls_back t) next p = refl
rolled-touched s nothing (Some item) p = refl
rolled-touched s (commit_reply t) (Some item) p = refl
rolled-touched s (rollback_reply t) (Some item) p = refl
rolled-touched s nothing None p = refl
rolled-touched s (commit_reply t) None p = refl
rolled-touched s (rollback_reply t) None p = refl

got-touched : (p : Place) (n : Node) (b : Bool) → HasMore p.touched (if b then p.touched ++ n ∷ [] else p.touched)
got-touched p n true = more-behind p.touched (n ∷ [])
got-touched p n false = more-same p.touched p.touched refl

after-touched : (o : Opening) (p : Place) (e : Event) → HasMore p.touched (after o p e).touched
after-touched o p (Began s kind) = more-same p.touched p.touched refl
after-touched o p (Wanted s n a) = more-same p.touched (after o p (Wanted s n a)).touched (sym (changed-touched s _ (p.transaction s) p))
after-touched o p (Got s n) = got-touched p n.node (is_line n.node.level)
after-touched o p (Demoted s n from to) = more-same p.touched p.touched refl
after-touched o p (Said s i c r) = more-same p.touched (after o p (Said s i c r)).touched (sym (changed-touched s _ (p.transaction s) p))
after-touched o p (Committed s m) = more-same p.touched (after o p (Committed s m)).touched (sym (committed-touched o.word s m (p.transaction s) p))
after-touched o p (RolledBack s) = more-same p.touched (after o p (RolledBack s)).touched (sym (rolled-touched s p.due (next_item o p s) p))
after-touched o p (Died s c) = more-same p.touched p.touched refl
after-touched o p (Recovered s true m) = more-same p.touched (after o p (Recovered s true m)).touched (sym (committed-touched o.word s m (p.transaction s) p))
after-touched o p (Recovered s false m) = more-same p.touched p.touched refl

pub touched-on : (o : Opening) (p : Place) (es : List Event) → HasMore p.touched (place_from o p es).touched
touched-on o p [] f h = h
touched-on o p (e ∷ es) f h = touched-on o (after o p e) es f (after-touched o p e f h)
