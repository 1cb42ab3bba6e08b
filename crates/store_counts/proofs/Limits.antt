-- Where the store refuses at a limit, the account has the cause.
use Rattle.std.proofs.Common.{◌≡◌, ◌≢◌, ◌≤◌, ◌<◌, ◌+◌, ℕ, zero, suc, ◌-◌, ◌%◌, ◌==◌, ◌||◌, ◌&&◌, [], nat_lt, if◌then◌else◌, not, sum_by, Bool, true, false, List, length, refl, ◌∙◌, sym, ap, subst, arith, Option, Some, None, is_some, ◌⊎◌, inl, inr}
use Rattle.std.proofs.lemmas.Bool.{false≢true, or_cases, or_left, or_right, and_parts, and_from}
use Rattle.rdb_types.specs.declared.keys.Dbkey.{Dbkey}
use Rattle.rdo_ast.specs.declared.reply.Reply.TheVariants as r
use Rattle.rdb_page.specs.Page.{IsOwner}
use Rattle.area_files.specs.Areas.{IsSpacePage}
use Rattle.line_view.specs.declared.writes.Write.{Write}
use Rattle.line_view.specs.Knowledge.{line_in}
use Rattle.rdb_account.specs.Places.{Opening, Place, Transaction}
use Rattle.rdb_account.specs.Lawful.{has_cause, is_taken, is_space_page, all_taken, file_of, written_by, journal_sum, part_of_other, sessions}
use Rattle.line_store.specs.declared.answers.ChangeStop.TheVariants as change
use Rattle.line_store.specs.declared.answers.CommitStop.TheVariants as commit
use Rattle.line_store.specs.Seats.{Seat, IsMember, IsWriting, outside, beginning, writing, changing, broken, prepared, committing, rolling_back, closing, reading, copying, dead, writes_of, is_written, group_of, set_aside}
use Rattle.line_store.specs.Shelves.{Shelf, seen_from, seen_by, set_aside_beside}
use Rattle.line_store.specs.Rooms.{IsFull, first_line}
use Rattle.line_store.specs.Calls.{MayStopChange, MayStopCommit}
use Rattle.store_counts.specs.Counts.{written_of, has_wanted, is_on_line, AreClaimed, unlaid, IsCounted}
use Rattle.store_counts.proofs.Sums.{sum-part, sum-less}
use Rattle.store_counts.proofs.Lines.{claimed-key, added-within, written-within}
use Rattle.store_counts.proofs.Places.{touched-taken}
use Rattle.store_counts.proofs.Kept.{laid-found}

written-count : (x : Option Transaction) → written_by x ≡ length (written_of x)
written-count (Some t) = refl
written-count None = refl

same-number : (a b : ℕ) → a ≡ b → (a == b) ≡ true
same-number a b e = grind arith

less : (a b : ℕ) → a < b → nat_lt a b ≡ true
less a b h = grind arith

-- ---- the undo journal, and the snapshot files

pub ruj-cause : (o : Opening) (p : Place) (h : Shelf) (s : ℕ) (more : List Write) (limit : ℕ) → IsCounted o p h → is_some (p.transaction s) ≡ true → AreClaimed p s more → MayStopChange h s more (change.RujFull limit) → has_cause o p s (r.RujFull limit) ≡ true
ruj-cause o p h s more limit c is_open own stop =
    let within = written-within p s more (writes_of (h.seat s)) (c.claimed s is_open) own in
    let count = written-count (p.transaction s) in
    let over = stop.1 in
    and_from (limit == o.limits.entries) (nat_lt limit (written_by (p.transaction s))) (same-number limit o.limits.entries (stop.0 ∙ c.limits.entries)) (less limit (written_by (p.transaction s)) (omega (arith, within, count, over)))

pub snap-cause : (o : Opening) (p : Place) (h : Shelf) (s : ℕ) (more : List Write) (limit : ℕ) → IsMember s → IsCounted o p h → AreClaimed p s more → MayStopChange h s more (change.SnapFull limit) → has_cause o p s (r.SnapFull limit) ≡ true
snap-cause o p h s more limit member c own stop =
    let within = added-within p s more (writes_of (h.seat s)) own in
    let part = sum-part (λ t. unlaid (p.transaction t) (h.seat t)) s member in
    let pairs = c.pairs in
    let over = stop.1 in
    and_from (limit == o.limits.snapshots) (nat_lt limit p.pairs) (same-number limit o.limits.snapshots (stop.0 ∙ c.limits.snaps)) (less limit p.pairs (omega (arith, within, part, pairs, over)))

-- ---- the journal

-- no more is set aside than a group of what is written
aside-group : (seat : Seat) → set_aside seat ≤ group_of (writes_of seat)
aside-group outside = omega arith
aside-group beginning = omega arith
aside-group (writing ws) = omega arith
aside-group (changing ws) = omega arith
aside-group (broken ws) = omega arith
aside-group (prepared ws) = omega arith
aside-group (committing ws) = omega arith
aside-group (rolling_back ws) = omega arith
aside-group closing = omega arith
aside-group (reading start) = omega arith
aside-group (copying number start) = omega arith
aside-group (dead true ws) = omega arith
aside-group (dead false ws) = omega arith

-- What is set aside for another is within the part of its transaction.
part-within : (o : Opening) (p : Place) (h : Shelf) (s t : ℕ) → IsCounted o p h → (if t == s then 0 else set_aside (h.seat t)) ≤ part_of_other s t (p.transaction t)
part-within o p h s t c = by (t == s) refl (set_aside (h.seat t)) refl
  where
    turned : (t == s) ≡ false → (s == t) ≡ false
    turned e = grind arith

    group : (x : Option Transaction) → p.transaction t ≡ x → has_wanted x ≡ true → (t == s) ≡ false → group_of (writes_of (h.seat t)) ≤ part_of_other s t x
    group None is wants e = absurd (false≢true wants)
    group (Some x) is wants e =
        let within = written-within p t [] (writes_of (h.seat t)) (c.claimed t (ap is_some is)) tt in
        let lines = ap (λ (y : Option Transaction). length (written_of y)) is in
        subst (λ (n : ℕ). group_of (writes_of (h.seat t)) ≤ n) (sym (counted x.wants_journal (s == t) wants (turned e))) (omega (arith, within, lines))
      where
        counted : (a b : Bool) → a ≡ true → b ≡ false → (if a && not b then (1 + length x.written) else 0) ≡ 1 + length x.written
        counted a b f g = rw f (rw g refl)

    by : (b : Bool) → (t == s) ≡ b → (n : ℕ) → set_aside (h.seat t) ≡ n → (if b then 0 else set_aside (h.seat t)) ≤ part_of_other s t (p.transaction t)
    by true e n is = omega arith
    by false e zero is = omega (arith, is)
    by false e (suc n) is =
        let most = aside-group (h.seat t) in
        let part = group (p.transaction t) refl (c.wants t (omega (arith, is))) e in
        omega (arith, most, part)

aside-within : (o : Opening) (p : Place) (h : Shelf) (s : ℕ) → IsCounted o p h → set_aside_beside s h ≤ sum_by (λ t. part_of_other s t (p.transaction t)) sessions
aside-within o p h s c = sum-less (λ t. part_of_other s t (p.transaction t)) (λ t. if t == s then 0 else set_aside (h.seat t)) (λ t. part-within o p h s t c)

pub aij-cause : (o : Opening) (p : Place) (h : Shelf) (s : ℕ) (limit : ℕ) → IsCounted o p h → is_some (p.transaction s) ≡ true → MayStopCommit h s (commit.AijFull limit) → has_cause o p s (r.AijFull limit) ≡ true
aij-cause o p h s limit c is_open stop =
    let within = written-within p s [] (writes_of (h.seat s)) (c.claimed s is_open) tt in
    let count = written-count (p.transaction s) in
    let slots = c.slots in
    let beside = aside-within o p h s c in
    let some = stop.1 in
    let over = stop.2 in
    and_from (limit == o.limits.slots) (nat_lt 0 (written_by (p.transaction s)) && nat_lt limit (journal_sum p s)) (same-number limit o.limits.slots (stop.0 ∙ c.limits.slots))
    (and_from (nat_lt 0 (written_by (p.transaction s))) (nat_lt limit (journal_sum p s)) (less 0 (written_by (p.transaction s)) (omega (arith, within, count, some)))
    (less limit (journal_sum p s) (omega (arith, within, count, slots, beside, over))))

-- ---- an area

pub file-is : (file area : ℕ) → IsOwner file area → file ≡ file_of area
file-is file area (inl e) = e.0 ∙ sym (ap file_of e.1)
file-is file area (inr (inl e)) = e.0 ∙ even (area == 1) (area % 2) (other area e.1) e.2
  where
    other : (a : ℕ) → 16 ≤ a → (a == 1) ≡ false
    other a h = grind arith

    even : (b : Bool) (m : ℕ) → b ≡ false → m ≡ 0 → ◌≡◌ {A = ℕ} 2 (if b then 1 else (if m == 0 then 2 else 3))
    even b m e f = rw e (rw f refl)
file-is file area (inr (inr e)) = e.0 ∙ odd (area == 1) (area % 2) (other area e.1) e.2
  where
    other : (a : ℕ) → 17 ≤ a → (a == 1) ≡ false
    other a h = grind arith

    odd : (b : Bool) (m : ℕ) → b ≡ false → m ≡ 1 → ◌≡◌ {A = ℕ} 3 (if b then 1 else (if m == 0 then 2 else 3))
    odd b m e f = rw e (rw f refl)

present : {A : Type 0} (x : Option A) → (x ≡ None → ⊥) → is_some x ≡ true
present None h = absurd (h refl)
present (Some x) h = refl

-- each line that a session sees lies on a page that is taken
seen-taken : (o : Opening) (p : Place) (h : Shelf) (s : ℕ) (seat : Seat) → h.seat s ≡ seat → IsWriting seat → IsCounted o p h → is_some (p.transaction s) ≡ true → (key : Dbkey) → is_some (line_in key (seen_by s h)) ≡ true → is_taken o p (file_of key.area) key.page ≡ true
seen-taken o p h s (writing ws) at writes c is_open key e =
    elim (or_cases (is_written key ws) (is_some (line_in key h.now)) (laid-found key ws h.now (subst (λ (x : Seat). is_some (line_in key (seen_from x h.now)) ≡ true) at e))) [
      | inl w ↦ touched-taken o p key (and_parts (is_on_line (written_of (p.transaction s)) key) (is_on_line p.touched key)
          (claimed-key p s ws key (subst (λ (x : Seat). AreClaimed p s (writes_of x)) at (c.claimed s is_open)) w)).1
      | inr l ↦ c.lines key l
    ]
seen-taken o p h s seat at writes c is_open key e = absurd writes

any-file : (o : Opening) (p : Place) (file n : ℕ) (area : ℕ) → IsOwner file area → all_taken o p file n ≡ true → (all_taken o p 1 n || (all_taken o p 2 n || all_taken o p 3 n)) ≡ true
any-file o p file n area (inl e) h = or_left (all_taken o p 1 n) (all_taken o p 2 n || all_taken o p 3 n) (subst (λ (f : ℕ). all_taken o p f n ≡ true) e.0 h)
any-file o p file n area (inr (inl e)) h =
    or_right (all_taken o p 1 n) (all_taken o p 2 n || all_taken o p 3 n) (or_left (all_taken o p 2 n) (all_taken o p 3 n) (subst (λ (f : ℕ). all_taken o p f n ≡ true) e.0 h))
any-file o p file n area (inr (inr e)) h =
    or_right (all_taken o p 1 n) (all_taken o p 2 n || all_taken o p 3 n) (or_right (all_taken o p 2 n) (all_taken o p 3 n) (subst (λ (f : ℕ). all_taken o p f n ≡ true) e.0 h))

pub area-cause : (o : Opening) (p : Place) (h : Shelf) (s area limit : ℕ) → IsCounted o p h → is_some (p.transaction s) ≡ true → IsWriting (h.seat s) → IsFull h s area limit → has_cause o p s (r.AreaFull limit) ≡ true
area-cause o p h s area limit c is_open writes full =
    and_from (limit == o.limits.pages) (all_taken o p 1 limit || (all_taken o p 2 limit || all_taken o p 3 limit)) (same-number limit o.limits.pages (full.limit_is ∙ c.limits.pages))
    (any-file o p full.file limit area full.lies (all limit (omega arith)))
  where
    space : (page : ℕ) → IsSpacePage page → is_space_page page ≡ true
    space page e = same-number ((page - 1) % 200) 0 e

    one : (page : ℕ) → 1 ≤ page → page ≤ limit → IsSpacePage page ⊎ ((h.space.taken full.file page ≡ true) ⊎ (line_in (first_line area page) (seen_by s h) ≢ None)) → is_taken o p full.file page ≡ true
    one page low high (inl e) = or_left (is_space_page page) _ (space page e)
    one page low high (inr (inl e)) = c.taken full.file page e
    one page low high (inr (inr e)) =
        subst (λ (f : ℕ). is_taken o p f page ≡ true) (sym (file-is full.file area full.lies))
        (seen-taken o p h s (h.seat s) refl writes c is_open (first_line area page) (present (line_in (first_line area page) (seen_by s h)) e))

    all : (n : ℕ) → n ≤ limit → all_taken o p full.file n ≡ true
    all zero within = refl
    all (suc n) within = and_from (is_taken o p full.file (suc n)) (all_taken o p full.file n) (one (suc n) (omega arith) within (full.all (suc n) (omega arith) within)) (all n (omega (arith, within)))
