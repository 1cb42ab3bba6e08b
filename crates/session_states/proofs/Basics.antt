-- Small laws of transactions, needs and writes.
use Rattle.std.proofs.Common.{◌≡◌, ℕ, zero, suc, ◌++◌, ◌∷◌, [], ◌==◌, ◌&&◌, not, Bool, true, false, List, length, take, refl, ◌∙◌, sym, ap, subst, arith, Option, Some, None, inl, inr, slice_get}
use Rattle.std.specs.Ordering.{is_eq}
use Rattle.std.specs.declared.cmp.Ordering.{Ordering}
use Rattle.std.specs.declared.cmp.Ordering.TheVariants.{Less, Equal, Greater}
use Rattle.std.proofs.lemmas.Bool.{false≢true, and_from, or_left, or_right, or_cases}
use Rattle.std.proofs.lemmas.Option.{none-some, same_Some}
use Rattle.std.proofs.lemmas.List.Folds.{list_any-append}
use Rattle.rdb_types.specs.declared.keys.Dbkey.{Dbkey}
use Rattle.rdb_types.specs.Order.{dbkey_order}
use Rattle.rdb_types.specs.OrderLaws.{dbkey_total, same_dbkey}
use Rattle.rdb_types.specs.declared.node.Node.{Node}
use Rattle.rdo_ast.specs.declared.reply.Reply.{Reply}
use Rattle.rdo_ast.specs.Tree.{Uttered}
use Rattle.std.proofs.lemmas.Cmp.{tied_itself}
use Rattle.lock_needs.specs.declared.need.Need.{Need}
use Rattle.lock_needs.specs.Nodes.{same_node, contains, is_on}
use Rattle.lock_needs.proofs.NodeLaws.{same_node-refl}
use Rattle.line_view.specs.declared.writes.Write.{Write}
use Rattle.rdb_account.specs.Events.{Got}
use Rattle.rdb_account.specs.Places.{Opening, Place, Transaction, after, place_from, is_first_refused, is_done, leaves_none, wanting, with_need, changed}
use Rattle.rdb_account.specs.Lawful.{is_nowait}
use Rattle.stepped_jobs.specs.kept_apart.Guards.{line_node, guards, is_guarded, opens, may_write, is_strong, is_alone, AreOwn}
use Rattle.stepped_jobs.proofs.of_kept_apart.Apart.{may-write-grown}
use Rattle.line_store.specs.Seats.{is_written, Adds}
use Rattle.line_steps.specs.lock_ties.Ties.{wanted_at}
use Rattle.line_steps.proofs.of_lock_ties.Places.{at-same}
use Rattle.line_steps.proofs.of_lock_ties.Trails.{asked-once, once-place}
use Rattle.line_steps.specs.Right.{Ground}
use Rattle.lock_needs.specs.declared.party.OpenWant.{OpenWant}
use Rattle.session_states.specs.Fits.{has_said, WantsAtMost}

abbrev pub at_time : ℕ → Ground → Ground
at_time t g = record g { time = t }

-- ---- what was said

-- the first statement is refused only where nothing was said, and only with a reply that isn't done
pub said-first : (x : Option Transaction) (item : Uttered) (reply : Reply) → has_said x ≡ true → is_first_refused x item reply ≡ false
said-first None item reply h = refl
said-first (Some t) item reply h = by (length t.lines == 0) (leaves_none item && not (is_done reply)) h
  where
    by : (a b : Bool) → not a ≡ true → (a && b) ≡ false
    by a b h = grind arith

pub done-first : (x : Option Transaction) (item : Uttered) (reply : Reply) → is_done reply ≡ true → is_first_refused x item reply ≡ false
done-first None item reply h = refl
done-first (Some t) item reply h = by (length t.lines == 0) (leaves_none item) (is_done reply) h
  where
    by : (a b d : Bool) → d ≡ true → (a && (b && not d)) ≡ false
    by a b d h = grind arith

-- ---- wants

-- where no want is open, none is open but of any lock
pub wants-none : (l : Option Need) (opened : Option OpenWant) → opened ≡ None → WantsAtMost l opened
wants-none None opened h = h
wants-none (Some n) None h = tt
wants-none (Some n) (Some w) h = absurd (none-some w (sym h))

pub said-wants : (o : Opening) (p : Place) (s : ℕ) (x : Transaction) (n : Need) (nodes : List Node) → p.transaction s ≡ Some x → has_said ((place_from o p (wanted_at s n nodes)).transaction s) ≡ has_said (p.transaction s)
said-wants o p s x n [] is_open = refl
said-wants o p s x n (node ∷ nodes) is_open =
    let q : Place = asked-once p s x n node in
    let there : q.transaction s ≡ Some (wanting n x) = at-same s (Some (wanting n x)) p.transaction in
    ap (λ (r : Place). has_said ((place_from o r (wanted_at s n nodes)).transaction s)) (once-place o p s x n node is_open)
    ∙ (said-wants o q s (wanting n x) n nodes there ∙ (ap has_said there ∙ sym (ap has_said is_open)))

pub said-got : (o : Opening) (p : Place) (s : ℕ) (x : Transaction) (n : Need) → p.transaction s ≡ Some x → has_said ((after o p (Got s n)).transaction s) ≡ has_said (p.transaction s)
said-got o p s x n is_open =
    ap (λ (z : Option Transaction). has_said ((changed s (with_need n) z p).transaction s)) is_open
    ∙ (ap has_said (at-same s (Some (with_need n x)) p.transaction) ∙ sym (ap has_said is_open))

-- the same of its kind
pub nowait-wants : (o : Opening) (p : Place) (s : ℕ) (x : Transaction) (n : Need) (nodes : List Node) → p.transaction s ≡ Some x → is_nowait ((place_from o p (wanted_at s n nodes)).transaction s) ≡ is_nowait (p.transaction s)
nowait-wants o p s x n [] is_open = refl
nowait-wants o p s x n (node ∷ nodes) is_open =
    let q : Place = asked-once p s x n node in
    let there : q.transaction s ≡ Some (wanting n x) = at-same s (Some (wanting n x)) p.transaction in
    ap (λ (r : Place). is_nowait ((place_from o r (wanted_at s n nodes)).transaction s)) (once-place o p s x n node is_open)
    ∙ (nowait-wants o q s (wanting n x) n nodes there ∙ (ap is_nowait there ∙ sym (ap is_nowait is_open)))

pub nowait-got : (o : Opening) (p : Place) (s : ℕ) (x : Transaction) (n : Need) → p.transaction s ≡ Some x → is_nowait ((after o p (Got s n)).transaction s) ≡ is_nowait (p.transaction s)
nowait-got o p s x n is_open =
    ap (λ (z : Option Transaction). is_nowait ((changed s (with_need n) z p).transaction s)) is_open
    ∙ (ap is_nowait (at-same s (Some (with_need n x)) p.transaction) ∙ sym (ap is_nowait is_open))

-- ---- needs

pub on-self : (n : Node) → is_on n n ≡ true
on-self n = or_left (same_node n n) (contains n n) (same_node-refl n)

-- who gets a strong need guards its node, and who gets an exclusive one may write there
pub guards-new : (got : List Need) (n : Need) → is_strong n.mode ≡ true → is_guarded (got ++ n ∷ []) n.node ≡ true
guards-new got n strong =
    list_any-append (guards n.node) got (n ∷ []) ∙ or_right (is_guarded got n.node) (is_guarded (n ∷ []) n.node)
    (or_left (guards n.node n) false (and_from (is_on n.node n.node) (is_strong n.mode) (on-self n.node) strong))

pub writes-new : (got : List Need) (n : Need) → is_alone n.mode ≡ true → may_write (got ++ n ∷ []) n.node ≡ true
writes-new got n alone =
    list_any-append (opens n.node) got (n ∷ []) ∙ or_right (may_write got n.node) (may_write (n ∷ []) n.node)
    (or_left (opens n.node n) false (and_from (is_on n.node n.node) (is_alone n.mode) (on-self n.node) alone))

-- ---- writes

pub own-more : (got more : List Need) (ws : List Write) → AreOwn got ws → AreOwn (got ++ more) ws
own-more got more [] h = tt
own-more got more (w ∷ ws) h = (may-write-grown got more (line_node w.key) h.0, own-more got more ws h.1)

pub own-none : (got : List Need) (ws : List Write) → AreOwn got (take 0 ws)
own-none got [] = tt
own-none got (w ∷ ws) = tt

pub own-take : (got : List Need) (ws : List Write) (k : ℕ) (w : Write) → slice_get ws k ≡ Some w → may_write got (line_node w.key) ≡ true → AreOwn got (take k ws) → AreOwn got (take (suc k) ws)
own-take got [] k w found may own = absurd (none-some w found)
own-take got (v ∷ ws) zero w found may own = (subst (λ (u : Write). may_write got (line_node u.key) ≡ true) (sym (same_Some v w found)) may, own-none got ws)
own-take got (v ∷ ws) (suc k) w found may own = (own.0, own-take got ws k w found may own.1)

pub take-all : {A : Type 0} (ws : List A) (k : ℕ) → slice_get ws k ≡ None → take k ws ≡ ws
take-all [] zero none = refl
take-all [] (suc k) none = refl
take-all (w ∷ ws) zero none = absurd (none-some w (sym none))
take-all (w ∷ ws) (suc k) none = ap (λ vs. w ∷ vs) (take-all ws k none)

equal : (o : Ordering) → is_eq o ≡ true → o ≡ Equal
equal Less h = absurd (false≢true h)
equal Equal h = refl
equal Greater h = absurd (false≢true h)

written-own : (got : List Need) (ws : List Write) (key : Dbkey) → AreOwn got ws → is_written key ws ≡ true → may_write got (line_node key) ≡ true
written-own got [] key own h = absurd (false≢true h)
written-own got (w ∷ ws) key own h = elim (or_cases (is_eq (dbkey_order key w.key)) (is_written key ws) h) [
  | inl e ↦ subst (λ (k : Dbkey). may_write got (line_node k) ≡ true) (sym (same_dbkey key w.key (equal (dbkey_order key w.key) e))) own.0
  | inr e ↦ written-own got ws key own.1 e
]

own-where : (got : List Need) (ws : List Write) → ((key : Dbkey) → is_written key ws ≡ true → may_write got (line_node key) ≡ true) → AreOwn got ws
own-where got [] h = tt
own-where got (w ∷ ws) h = (
  h w.key (or_left (is_eq (dbkey_order w.key w.key)) (is_written w.key ws) (ap is_eq (tied_itself dbkey_total w.key))),
  own-where got ws (λ key e. h key (or_right (is_eq (dbkey_order key w.key)) (is_written key ws) e)),
)

-- the writes behind are on lines of those before or of these
pub own-added : (got : List Need) (more before behind : List Write) → Adds more before behind → AreOwn got before → AreOwn got more → AreOwn got behind
own-added got more before behind adds was own = own-where got behind (λ key e.
    elim (or_cases (is_written key before) (is_written key more) (sym (adds.keys key) ∙ e)) [
      | inl h ↦ written-own got before key was h
      | inr h ↦ written-own got more key own h
    ])
