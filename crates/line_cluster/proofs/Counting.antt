-- What the events of a step do to the online backups of an account.
use Rattle.std.proofs.Common.{◌≡◌, ℕ, ◌==◌, ◌++◌, ◌∷◌, [], Bool, true, false, List, refl, ◌∙◌, sym, ap, arith, Option, Some, None, if◌then◌else◌, ◌⊎◌, inl, inr}
use Rattle.std.proofs.lemmas.Bool.{false≢true, eqb-true}
use Rattle.std.proofs.lemmas.Option.{none-some, same_Some}
use Rattle.rdb_types.specs.declared.node.Node.{Node}
use Rattle.rdo_ast.specs.Tree.{said, commit}
use Rattle.lock_needs.specs.declared.need.Need.{Need}
use Rattle.lock_ties.specs.Ties.{wanted_at}
use Rattle.rdb_account.specs.Events.{Event, Wanted as WantedEvent, Got as GotEvent, Committed as CommittedEvent, RolledBack as RolledBackEvent}
use Rattle.rdb_account.specs.Places.{Opening, Place, Transaction, at, after, place_from, next_item}
use Rattle.rdb_account.specs.Legal.{MayFollow}
use Rattle.rdb_account.specs.Backups.{Backup, Counted, backup_at, with_begun, with_ended, counting, is_by, backups_behind, backups_from}
use Rattle.line_store.specs.Sights.{copier_behind}
use Rattle.line_account.specs.stage_steps.declared.happening.Happening.{Happening}
use Rattle.line_account.specs.stage_steps.declared.happening.Happening.TheVariants.{Quiet, Began, Answered, Unstarted, Asleep, Noticed, Got, Refused, RefusedStart, Committed, BackedUp, RolledBack, Left, Failed, Unlaid, Unworked, Unsound, Unanswered}
use Rattle.line_account.specs.stage_steps.Happenings.{events_of, said_by}
use Rattle.line_account.specs.stage_steps.Notices.{demoted_by}
use Rattle.lock_tree.specs.declared.notice.Demotion.{Demotion}
use Rattle.line_cluster.proofs.Silent.{committed-next, has_begun}

abbrev pub has_backed : Happening → Bool
has_backed (BackedUp item moment) = true
has_backed h = false

-- events in turn
in-turn : (o : Opening) (p : Place) (es fs : List Event) (b : ℕ → Backup) → backups_from o p (es ++ fs) b ≡ backups_from o (place_from o p es) fs (backups_from o p es b)
in-turn o p [] fs b = refl
in-turn o p (e ∷ es) fs b = in-turn o (after o p e) es fs (backups_behind o p e b)

wants-none : (o : Opening) (p : Place) (s : ℕ) (n : Need) (nodes : List Node) (b : ℕ → Backup) → backups_from o p (wanted_at s n nodes) b ≡ b
wants-none o p s n [] b = refl
wants-none o p s n (node ∷ nodes) b = wants-none o (after o p (WantedEvent s n node)) s n nodes b

pub ended-none : (s moment : ℕ) (x : Option Transaction) (b : ℕ → Backup) → with_ended s moment x None b ≡ b
ended-none s moment None b = refl
ended-none s moment (Some t) b = refl

-- whatever is neither its beginning nor its end, leaves all as it was
pub none-counted : (o : Opening) (p : Place) (s : ℕ) (h : Happening) (b : ℕ → Backup) → has_begun h ≡ false → has_backed h ≡ false → MayFollow o p (events_of s h) → backups_from o p (events_of s h) b ≡ b
none-counted o p s Quiet b old goes may = refl
none-counted o p s (Began kind) b old goes may = absurd (false≢true (sym old))
none-counted o p s (Answered a) b old goes may = refl
none-counted o p s (Unstarted a) b old goes may = refl
none-counted o p s (Asleep t x) b old goes may = wants-none o p s x.need x.nodes b
none-counted o p s (Noticed t n mode x) b old goes may = wants-none o p s x.need x.nodes b
none-counted o p s (Got x) b old goes may = in-turn o p (wanted_at s x.need x.nodes) (GotEvent s x.need ∷ []) b ∙ wants-none o p s x.need x.nodes b
none-counted o p s (Refused x a) b old goes may = in-turn o p (wanted_at s x.need x.nodes) (said_by s a ∷ []) b ∙ wants-none o p s x.need x.nodes b
none-counted o p s (RefusedStart x a) b old goes may = in-turn o p (wanted_at s x.need x.nodes) (said_by s a ∷ RolledBackEvent s ∷ []) b ∙ wants-none o p s x.need x.nodes b
none-counted o p s (Committed moment) b old goes may =
    ap (λ (n : Option ℕ). with_ended s moment.number (p.transaction s) n b) (ap backup_at (sym (committed-next o p s moment.number) ∙ may.1.0.0)) ∙ ended-none s moment.number (p.transaction s) b
none-counted o p s (BackedUp item moment) b old goes may = absurd (false≢true (sym goes))
none-counted o p s RolledBack b old goes may = refl
none-counted o p s Left b old goes may = refl
none-counted o p s (Failed fault) b old goes may = refl
none-counted o p s (Unlaid key) b old goes may = refl
none-counted o p s Unworked b old goes may = refl
none-counted o p s (Unsound key) b old goes may = refl
none-counted o p s (Unanswered item) b old goes may = refl

-- nor does a notice
pub demotion-still : (o : Opening) (s : ℕ) (node : Node) (demotion : Option Demotion) (p : Place) (b : ℕ → Backup) → backups_from o p (demoted_by s node demotion) b ≡ b
demotion-still o s node None p b = refl
demotion-still o s node (Some d) p b = refl

-- ---- one that begins

pub begun-by : (s : ℕ) (number : Option ℕ) (b : ℕ → Backup) (n : ℕ) → (with_begun s number b n).by ≡ copier_behind s number (λ m. (b m).by) n
begun-by s None b n = refl
begun-by s (Some k) b n = by (n == k)
  where
    by : (same : Bool) → (if same then record { by = Some s; counted = None } else b n).by ≡ (if same then Some s else (b n).by)
    by true = refl
    by false = refl

same-number : (n : ℕ) → (n == n) ≡ true
same-number n = grind arith

-- what counts behind it is of another number, and counted before
pub begun-counts : (s : ℕ) (number : Option ℕ) (b : ℕ → Backup) (n : ℕ) (c : Counted) → (with_begun s number b n).counted ≡ Some c → (number ≡ Some n → ⊥) × ((b n).counted ≡ Some c)
begun-counts s None b n c h = ((λ e. none-some n e), h)
begun-counts s (Some k) b n c h = by (n == k) refl h
  where
    some-number : Some k ≡ Some n → k ≡ n
    some-number is = cc is

    by : (same : Bool) → (n == k) ≡ same → (if same then record { by = Some s; counted = None } else b n).counted ≡ Some c → (Some k ≡ Some n → ⊥) × ((b n).counted ≡ Some c)
    by true e counted = absurd (none-some c counted)
    by false e counted = ((λ is. false≢true (sym e ∙ (ap (λ (m : ℕ). n == m) (some-number is) ∙ same-number n))), counted)

-- ---- one that ends

pub ended-by : (s moment : ℕ) (x : Option Transaction) (number : Option ℕ) (b : ℕ → Backup) (n : ℕ) → (with_ended s moment x number b n).by ≡ (b n).by
ended-by s moment None number b n = refl
ended-by s moment (Some t) None b n = refl
ended-by s moment (Some t) (Some k) b n = by (is_by s (b k).by) (n == k) refl
  where
    c : Counted
    c = record { moment = moment; tables = t.base }

    by : (mine same : Bool) → (n == k) ≡ same → ((if mine then at k (counting c (b k)) b else b) n).by ≡ (b n).by
    by false same e = refl
    by true true e = ap (λ (v : Bool). (if v then counting c (b k) else b n).by) e ∙ ap (λ (m : ℕ). (b m).by) (sym (eqb-true n k e))
    by true false e = ap (λ (v : Bool). (if v then counting c (b k) else b n).by) e

-- it counts where s began it last
pub record IsEnded (s moment : ℕ) (x : Option Transaction) (number : Option ℕ) (b : ℕ → Backup) (n : ℕ) (c : Counted) : Type 0 where
  pub transaction : Transaction
  pub was : x ≡ Some transaction
  pub is : number ≡ Some n
  pub mine : is_by s (b n).by ≡ true
  pub counted : c ≡ record { moment = moment; tables = transaction.base }

pub ended-counts : (s moment : ℕ) (x : Option Transaction) (number : Option ℕ) (b : ℕ → Backup) (n : ℕ) (c : Counted) → (with_ended s moment x number b n).counted ≡ Some c → ((b n).counted ≡ Some c) ⊎ IsEnded s moment x number b n c
ended-counts s moment None number b n c h = inl h
ended-counts s moment (Some t) None b n c h = inl h
ended-counts s moment (Some t) (Some k) b n c h = by (is_by s (b k).by) refl (n == k) refl h
  where
    now : Counted
    now = record { moment = moment; tables = t.base }

    by : (mine : Bool) → is_by s (b k).by ≡ mine → (same : Bool) → (n == k) ≡ same → ((if mine then at k (counting now (b k)) b else b) n).counted ≡ Some c → ((b n).counted ≡ Some c) ⊎ IsEnded s moment (Some t) (Some k) b n c
    by false m same e counted = inl counted
    by true m false e counted = inl (sym (ap (λ (v : Bool). (if v then counting now (b k) else b n).counted) e) ∙ counted)
    by true m true e counted =
        let is : n ≡ k = eqb-true n k e in
        inr (record {
          transaction = t;
          was = refl;
          is = ap Some (sym is);
          mine = ap (λ (j : ℕ). is_by s (b j).by) is ∙ m;
          counted = sym (same_Some now c (sym (ap (λ (v : Bool). (if v then counting now (b k) else b n).counted) e) ∙ counted));
        })
