-- A read-only transaction in which nothing was said yet: only its beginning leads to it.
use Rattle.std.proofs.Common.{◌≡◌, ℕ, ◌==◌, ◌++◌, ◌∷◌, [], Bool, true, false, List, length, refl, ◌∙◌, sym, ap, subst, arith, Option, Some, None, slice_get}
use Rattle.std.proofs.lemmas.Bool.{false≢true}
use Rattle.std.proofs.lemmas.Option.{none-some, same_Some}
use Rattle.rdb_types.specs.declared.node.Node.{Node}
use Rattle.rdb_types.specs.declared.keys.Dbkey.{Dbkey}
use Rattle.rdo_ast.specs.declared.reply.Reply.{Reply}
use Rattle.rdo_ast.specs.Tree.{Uttered}
use Rattle.lock_needs.specs.declared.need.Need.{Need}
use Rattle.lock_ties.specs.Ties.{wanted_at}
use Rattle.rdb_account.specs.Events.{Event, Wanted as WantedEvent, Got as GotEvent, Said, Committed as CommittedEvent, RolledBack as RolledBackEvent}
use Rattle.rdb_account.specs.Places.{Opening, Place, Transaction, Line, at, after, place_from, changed, committed_by, next_item, is_writer, with_line, with_need, wanting, retold}
use Rattle.rdb_account.specs.Legal.{MayFollow, has_writer}
use Rattle.rdb_account.proofs.Growth.{place-grown}
use Rattle.line_steps.proofs.of_lock_ties.Places.{at-same}
use Rattle.session_states.proofs.Ends.{rolled-place}
use Rattle.line_account.specs.stage_steps.declared.happening.Happening.{Happening}
use Rattle.line_account.specs.stage_steps.declared.happening.Happening.TheVariants.{Quiet, Began, Answered, Unstarted, Asleep, Noticed, Got, Refused, RefusedStart, Committed, BackedUp, RolledBack, Left, Failed, Unlaid, Unworked, Unsound, Unanswered}
use Rattle.line_account.specs.stage_steps.Happenings.{events_of, said_by}

pub record IsSilent (x : Option Transaction) : Type 0 where
  pub transaction : Transaction
  pub is_open : x ≡ Some transaction
  pub reads : is_writer transaction.kind ≡ false
  pub none : (length transaction.lines == 0) ≡ true

abbrev pub has_begun : Happening → Bool
has_begun (Began kind) = true
has_begun h = false

-- ---- one event

some-lines : (ls : List Line) (l : Line) → (length (ls ++ l ∷ []) == 0) ≡ true → ⊥
some-lines [] l h = false≢true h
some-lines (m ∷ ls) l h = absurd (grind arith)

none-silent : (x : Option Transaction) → x ≡ None → IsSilent x → ⊥
none-silent x e h = none-some h.transaction (sym e ∙ h.is_open)

said-ends : (o : Opening) (p : Place) (s : ℕ) (item : Uttered) (choices : List Dbkey) (reply : Reply) → IsSilent ((after o p (Said s item choices reply)).transaction s) → ⊥
said-ends o p s item choices reply h = by (p.transaction s) refl h
  where
    l : Line
    l = record { item = item; choices = choices; reply = reply }

    by : (x : Option Transaction) → p.transaction s ≡ x → IsSilent ((changed s (with_line l) x p).transaction s) → ⊥
    by None e silent = none-silent (p.transaction s) e silent
    by (Some t) e silent =
        let is = same_Some (with_line l t) silent.transaction (sym (at-same s (Some (with_line l t)) p.transaction) ∙ silent.is_open) in
        some-lines t.lines l (ap (λ (y : Transaction). length y.lines == 0) is ∙ silent.none)

writer-ends : (p : Place) (s : ℕ) (f : Transaction → Transaction) → ((t : Transaction) → (f t).kind ≡ t.kind) → has_writer (p.transaction s) ≡ true → IsSilent ((changed s f (p.transaction s) p).transaction s) → ⊥
writer-ends p s f same writes h = by (p.transaction s) refl writes h
  where
    by : (x : Option Transaction) → p.transaction s ≡ x → has_writer x ≡ true → IsSilent ((changed s f x p).transaction s) → ⊥
    by None e writer silent = false≢true writer
    by (Some t) e writer silent =
        let is = same_Some (f t) silent.transaction (sym (at-same s (Some (f t)) p.transaction) ∙ silent.is_open) in
        false≢true (sym silent.reads ∙ (ap (λ (y : Transaction). is_writer y.kind) (sym is) ∙ (ap is_writer (same t) ∙ writer)))

rolled-ends : (o : Opening) (p : Place) (s : ℕ) → IsSilent ((after o p (RolledBackEvent s)).transaction s) → ⊥
rolled-ends o p s h = none-silent ((after o p (RolledBackEvent s)).transaction s) (ap (λ (f : ℕ → Option Transaction). f s) (rolled-place o p s).0 ∙ at-same s None p.transaction) h

-- ---- the events of a step

pub follow-behind : (o : Opening) (p : Place) (es fs : List Event) → MayFollow o p (es ++ fs) → MayFollow o (place_from o p es) fs
follow-behind o p [] fs h = h
follow-behind o p (e ∷ es) fs h = follow-behind o (after o p e) es fs h.1

wants-silent : (o : Opening) (p : Place) (s : ℕ) (n : Need) (nodes : List Node) → MayFollow o p (wanted_at s n nodes) → IsSilent ((place_from o p (wanted_at s n nodes)).transaction s) → wanted_at s n nodes ≡ []
wants-silent o p s n [] may h = refl
wants-silent o p s n (node ∷ nodes) may h =
    let rest = wants-silent o (after o p (WantedEvent s n node)) s n nodes may.1 h in
    absurd (writer-ends p s (wanting n) (λ t. refl) may.0.1 (subst (λ (es : List Event). IsSilent ((place_from o (after o p (WantedEvent s n node)) es).transaction s)) rest h))

grown-silent : (o : Opening) (p : Place) (s : ℕ) (es fs : List Event) → IsSilent ((place_from o p (es ++ fs)).transaction s) → IsSilent ((place_from o (place_from o p es) fs).transaction s)
grown-silent o p s es fs h = subst (λ (y : Place). IsSilent (y.transaction s)) (place-grown o p es fs) h

-- Where nothing was said in it behind them, and it didn't begin in them, there are none.
pub none-happened : (o : Opening) (p : Place) (s : ℕ) (h : Happening) → has_begun h ≡ false → MayFollow o p (events_of s h) → IsSilent ((place_from o p (events_of s h)).transaction s) → events_of s h ≡ []
none-happened o p s Quiet old may silent = refl
none-happened o p s (Began kind) old may silent = absurd (false≢true (sym old))
none-happened o p s (Answered a) old may silent = absurd (said-ends o p s _ _ _ silent)
none-happened o p s (Unstarted a) old may silent = absurd (rolled-ends o (after o p (said_by s a)) s silent)
none-happened o p s (Asleep t x) old may silent = wants-silent o p s x.need x.nodes may silent
none-happened o p s (Noticed t n mode x) old may silent = wants-silent o p s x.need x.nodes may silent
none-happened o p s (Got x) old may silent =
    let es = wanted_at s x.need x.nodes in
    let q = place_from o p es in
    let last = follow-behind o p es (GotEvent s x.need ∷ []) may in
    absurd (writer-ends q s (with_need x.need) (λ t. refl) last.0.1 (grown-silent o p s es (GotEvent s x.need ∷ []) silent))
none-happened o p s (Refused x a) old may silent =
    let es = wanted_at s x.need x.nodes in
    absurd (said-ends o (place_from o p es) s _ _ _ (grown-silent o p s es (said_by s a ∷ []) silent))
none-happened o p s (RefusedStart x a) old may silent =
    let es = wanted_at s x.need x.nodes in
    absurd (rolled-ends o (after o (place_from o p es) (said_by s a)) s (grown-silent o p s es (said_by s a ∷ RolledBackEvent s ∷ []) silent))
none-happened o p s (Committed moment) old may silent = absurd (said-ends o (after o p (CommittedEvent s moment.number)) s _ _ _ silent)
none-happened o p s (BackedUp item moment) old may silent = absurd (said-ends o (after o p (CommittedEvent s moment.number)) s _ _ _ silent)
none-happened o p s RolledBack old may silent = absurd (said-ends o (after o p (RolledBackEvent s)) s _ _ _ silent)
none-happened o p s Left old may silent = absurd (rolled-ends o p s silent)
none-happened o p s (Failed fault) old may silent = refl
none-happened o p s (Unlaid key) old may silent = refl
none-happened o p s Unworked old may silent = refl
none-happened o p s (Unsound key) old may silent = refl
none-happened o p s (Unanswered item) old may silent = refl

-- ---- a commit leaves the next item

committed-said : (word : List ℕ) (s moment : ℕ) (x : Option Transaction) (p : Place) → (committed_by word s moment x p).said ≡ p.said
committed-said word s moment None p = refl
committed-said word s moment (Some t) p = by (is_writer t.kind) refl
  where
    by : (b : Bool) → is_writer t.kind ≡ b → (committed_by word s moment (Some t) p).said ≡ p.said
    by true e = rw e refl
    by false e = rw e refl

pub committed-next : (o : Opening) (p : Place) (s moment : ℕ) → next_item o (after o p (CommittedEvent s moment)) s ≡ next_item o p s
committed-next o p s moment = ap (λ (f : ℕ → ℕ). slice_get (o.script s) (f s)) (committed-said o.word s moment (p.transaction s) p)
