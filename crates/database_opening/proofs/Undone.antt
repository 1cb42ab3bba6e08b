-- One step of undoing keeps what an opening rests on.
use Rattle.std.proofs.Common.{◌≡◌, ℕ, ◌+◌, ◌≤◌, ◌<◌, length, Option, Some, None, ◌⊎◌, ⊎_elim, refl, sym, ◌∙◌, ap, subst, arith}
use Rattle.std.proofs.lemmas.Option.{slice_get_within}
use Rattle.rdb_types.specs.declared.keys.Dbkey.{Dbkey}
use Rattle.rdb_types.specs.declared.keys.Line.{Line}
use Rattle.rdb_types.specs.declared.keys.Tsn.{Tsn}
use Rattle.rdb_outside.specs.Disk.{Image, View, Pending, LeavesOnly}
use Rattle.rdb_outside.specs.Moments.{weaker}
use Rattle.line_view.specs.Knowledge.{Lines}
use Rattle.line_opening.specs.stable_lines.Slots.{IsMember}
use Rattle.line_opening.specs.stable_lines.Journal.{Journal}
use Rattle.line_opening.specs.stable_lines.Kept.{Kept}
use Rattle.line_opening.specs.stable_lines.Progress.{Open, Progress}
use Rattle.line_opening.specs.stable_lines.Facts.{Facts, StandsAs, as_committed, with_former, with_flight}
use Rattle.line_opening.specs.stable_lines.Opening.{found}
use Rattle.root_file.specs.declared.Root.{Root}
use Rattle.line_opening.specs.Headers.{number_of}
use Rattle.line_opening.specs.Undoing.{MayUndo, AreUndone}
use Rattle.line_opening.proofs.Standing.{IsOrEnded}
use Rattle.database_opening.specs.Stages.{OpeningFacts}
use Rattle.database_opening.specs.declared.stages.Found.{Found}
use Rattle.database_opening.specs.declared.stages.OpeningStage.TheVariants.{Undoing, Restoring}

some_same : {A : Type 0} (a b : A) → Some a ≡ Some b → a ≡ b
some_same a b same = cc

-- nothing of it is behind the last entry
pub none_undone : (image : Image) (o : Open) (entries : ℕ) → entries ≡ length o.entries → AreUndone image o entries
none_undone image o entries all i undo le got = let within : i < length o.entries = slice_get_within o.entries i undo got in absurd (omega (arith, all, le, within))

-- what was undone of one transaction is so still
still_undone : (now : Progress) (old new : Image) (member from : ℕ) (o : Open) → now.going member ≡ Some o → ((key : Dbkey) → IsOrEnded now old new key) → AreUndone old o from → AreUndone new o from
still_undone now old new member from o is each was i undo le got bears = ⊎_elim
    (λ same. was i undo le got (ap (λ (l : Line). l.tsn.number) (sym same) ∙ bears))
    (λ ended. ended member o is bears)
    (each undo.key)

-- an image of the progress is kept with its lines, where nothing flies
pub kept_of : (classes : ℕ → ℕ) (lines : Lines) (j : Journal) (root : Root) (going : ℕ → Option Open) (image : Image) → StandsAs (found classes lines j root going) image → Kept classes lines j image
kept_of classes lines j root going image (as_committed kept) = kept
kept_of classes lines j root going image (with_former former is kept) = let bad : None ≡ Some former = is in absurd (cc)
kept_of classes lines j root going image (with_flight f is kept) = let bad : None ≡ Some f = is in absurd (cc)

pub leaves_kept : (classes : ℕ → ℕ) (lines : Lines) (j : Journal) (root : Root) (going : ℕ → Option Open) (old new : View) → LeavesOnly old new (StandsAs (found classes lines j root going)) → LeavesOnly old new (Kept classes lines j)
leaves_kept classes lines j root going old new leaves = weaker old new (StandsAs (found classes lines j root going)) (Kept classes lines j) (kept_of classes lines j root going) leaves

module _ (classes : ℕ → ℕ) (lines : Lines) (j : Journal) (read : Found) (member entries : ℕ) (old : View) (F : OpeningFacts classes lines j (Undoing member entries) old read) where
  abbrev pub now_of : Progress
  now_of = found classes lines j read.root F.going

  -- where entries are left the member has a transaction
  pub there : 1 ≤ entries → (o : Open) × (F.going member ≡ Some o)
  there some = by (F.going member) refl
    where
      by : (o : Option Open) → F.going member ≡ o → (o : Open) × (F.going member ≡ Some o)
      by None is = let none = F.done.none is in absurd (omega (arith, some, none))
      by (Some o) is = (o, is)

  pub may : (o : Open) (pages : ℕ) → F.going member ≡ Some o → pages ≡ read.root.limits.pages → MayUndo (Pending old) now_of member o entries pages
  may o pages is limit = record { facts = F.facts; is_open = is; within = F.done.within o is; limit = limit; not_flying = λ f flies. let bad : None ≡ Some f = flies in absurd (cc) }

  pub its_tsn : (o : Open) (tsn : Tsn) → F.going member ≡ Some o → tsn.number ≡ number_of read.numbers member → tsn ≡ o.tsn
  its_tsn o tsn is at =
      let number : tsn.number ≡ o.tsn.number = at ∙ F.done.known.number member o is in
      ap (λ (n : ℕ). let t : Tsn = record { number = n } in t) number

  -- fewer entries are left
  pub fewer_left : (o : Open) (new : View) (rest : ℕ) → F.going member ≡ Some o → rest < entries → Facts (Pending new) now_of → AreUndone new.content o rest → ((key : Dbkey) → IsOrEnded now_of old.content new.content key) → OpeningFacts classes lines j (Undoing member rest) new read
  fewer_left o new rest is less facts undone each = record {
    going = F.going;
    facts = facts;
    next = F.next;
    done = record {
      known = F.done.known;
      before = λ m p before there. still_undone now_of old.content new.content m 0 p there each (F.done.before m p before there);
      within = λ p there. let within = F.done.within p there in omega (arith, less, within);
      undone = λ p there. subst (λ (q : Open). AreUndone new.content q rest) (some_same o p (sym is ∙ there)) undone;
      none = λ none. let bad : None ≡ Some o = sym none ∙ is in absurd (cc);
    };
  }

  -- none is left, and the next member comes
  pub before_next : entries ≡ 0 → (m : ℕ) (o : Open) → m < member + 1 → F.going m ≡ Some o → AreUndone old.content o 0
  before_next none m o less is = ⊎_elim (λ before. F.done.before m o before is)
      (λ here. subst (λ (n : ℕ). AreUndone old.content o n) none (F.done.undone o (ap F.going (sym here) ∙ is))) (cases m member less)
    where
      cases : (a b : ℕ) → a < b + 1 → (a < b) ⊎ (a ≡ b)
      cases a b lt = grind arith

  pub next_member : entries ≡ 0 → IsMember (member + 1) → OpeningFacts classes lines j (Undoing (member + 1) (number_of read.counts (member + 1))) old read
  next_member none is = record {
    going = F.going;
    facts = F.facts;
    next = F.next;
    done = record {
      known = F.done.known;
      before = before_next none;
      within = λ o there. let all = F.done.known.count (member + 1) o there in omega (arith, all);
      undone = λ o there. none_undone old.content o (number_of read.counts (member + 1)) (F.done.known.count (member + 1) o there);
      none = λ off. F.done.known.none (member + 1) is off;
    };
  }

  pub all_undone : entries ≡ 0 → 16 ≤ member → OpeningFacts classes lines j Restoring old read
  all_undone none last = record { going = F.going; facts = F.facts; next = F.next; done = λ m o less is. before_next none m o (let in_reach = (F.facts.going m o is).is_member.last in omega (arith, in_reach, last)) is }
