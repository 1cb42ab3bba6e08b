-- A need of a reader's statement is read, by a step of the store, or passed over; then the next one is read, or the job is due.
use Rattle.std.proofs.Common.{◌≡◌, ◌+◌, ℕ, Bool, false, [], List, refl, sym, ap, subst, ◌∙◌, arith, Option, Some, None, slice_get}
use Rattle.std.specs.Prelude.{MatchOption}
use Rattle.rdo_ast.specs.declared.syntax.Item.{Item}
use Rattle.rdo_ast.specs.Tree.{Uttered}
use Rattle.rdo_ast.specs.Views.{uttered_of}
use Rattle.line_view.specs.declared.need.Need.{Need}
use Rattle.line_view.specs.Held.{Held, knows}
use Rattle.line_view.specs.Knowledge.{IsInOrder, Agrees}
use Rattle.line_store.specs.Shelves.{Shelf, seen_by}
use Rattle.line_store.specs.Calls.{Moves}
use Rattle.session_jobs.specs.Records.{Model, IsOrderly}
use Rattle.session_limits.specs.session_states.declared.stage.ReaderWork.TheVariants.{Due}
use Rattle.session_limits.specs.session_states.declared.stage.ReaderStage.{ReaderStage}
use Rattle.session_limits.specs.session_states.declared.stage.ReaderStage.TheVariants.{Working, Gathering}
use Rattle.session_limits.specs.session_states.States.{copies_at, reader_item, session}
use Rattle.session_limits.specs.session_states.Shared.{Shared, with_shelf}
use Rattle.session_limits.specs.session_states.Fits.{ReaderStageFits, ReadsOn}
use Rattle.session_stands.specs.Seated.{NamesCopied}
use Rattle.session_limits.proofs.of_session_states.Reading.{goes-to-read, reads-more}
use Rattle.session_measure.specs.Weights.{Beside}
use Rattle.session_measure.specs.Nearer.{ComesNearer}
use Rattle.session_measure.proofs.Falling.{next-place}
use Rattle.session_measure.proofs.Nearer.{nearer-in-round, nearer-by-place}
use Rattle.stage_steps.specs.declared.terms.ReaderTerms.{ReaderTerms}
use Rattle.stage_steps.specs.Turns.{Comes, reads_at}

-- a reader's terms with this known
abbrev pub knowing : ReaderTerms → Held → ReaderTerms
knowing t known = record { standing = t.standing; known = known; spoken = t.spoken }

module _ (item : Item) (later : List Need) (place : ℕ) (stage : ReaderStage) (is : MatchOption (slice_get later place) (stage ≡ Working item Due) (λ m. stage ≡ Gathering item m later (place + 1))) where
  -- the same statement is under way behind a need
  same-statement : reader_item stage ≡ Some (uttered_of item)
  same-statement = by (slice_get later place) is
    where
      by : (x : Option Need) → MatchOption x (stage ≡ Working item Due) (λ m. stage ≡ Gathering item m later (place + 1)) → reader_item stage ≡ Some (uttered_of item)
      by None e = ap reader_item e
      by (Some m) e = ap reader_item e

  -- nothing is copied
  pub plain-behind : copies_at stage ≡ None
  plain-behind = by (slice_get later place) is
    where
      by : (x : Option Need) → MatchOption x (stage ≡ Working item Due) (λ m. stage ≡ Gathering item m later (place + 1)) → copies_at stage ≡ None
      by None e = ap copies_at e
      by (Some m) e = ap copies_at e

  pub names-behind : NamesCopied stage
  names-behind = by (slice_get later place) is
    where
      by : (x : Option Need) → MatchOption x (stage ≡ Working item Due) (λ m. stage ≡ Gathering item m later (place + 1)) → NamesCopied stage
      by None e = subst NamesCopied (sym e) tt
      by (Some m) e = subst NamesCopied (sym e) tt

  still-fits : (spoken : Bool) → ReadsOn spoken (uttered_of item) → ReaderStageFits spoken stage
  still-fits spoken stays = by (slice_get later place) is
    where
      by : (x : Option Need) → MatchOption x (stage ≡ Working item Due) (λ m. stage ≡ Gathering item m later (place + 1)) → ReaderStageFits spoken stage
      by None e = subst (λ (y : ReaderStage). ReaderStageFits spoken y) (sym e) stays
      by (Some m) e = subst (λ (y : ReaderStage). ReaderStageFits spoken y) (sym e) stays

  pub nearer-behind : (s : ℕ) (c d : Beside) (t u : ReaderTerms) (left : List Item) (total : ℕ) (n : Need) → ComesNearer c d s (session left total (reads_at t (Gathering item n later place))) (session left total (reads_at u stage))
  nearer-behind s c d t u left total n = by (slice_get later place) refl is
    where
      At : ReaderStage → Type 0
      At y = ComesNearer c d s (session left total (reads_at t (Gathering item n later place))) (session left total (reads_at u y))

      by : (x : Option Need) → slice_get later place ≡ x → MatchOption x (stage ≡ Working item Due) (λ m. stage ≡ Gathering item m later (place + 1)) → At stage
      by None found e = subst (λ (y : ReaderStage). At y) (sym e) (nearer-in-round s c d (reads_at t (Gathering item n later place)) (reads_at u (Working item Due)) refl refl refl refl (omega arith) left total)
      by (Some m) found e = subst (λ (y : ReaderStage). At y) (sym e) (nearer-by-place s c d (reads_at t (Gathering item n later place)) (reads_at u (Gathering item m later (place + 1))) refl refl refl refl refl (next-place later place m found) left total)

  module _ (M : Model) (orderly : IsOrderly M) (s : ℕ) (c : Shared) (t : ReaderTerms) (n : Need) where
    -- it is passed over
    pub passed-behind : Comes M s c (reads_at t (Gathering item n later place)) c (reads_at t stage) []
    passed-behind left total = goes-to-read M orderly s c left total t.standing t.known t.spoken (Gathering item n later place) stage (sym same-statement) (sym plain-behind) (still-fits t.spoken)

    -- it is read
    pub read-behind : (shelf : Shelf) (new : Held) → Moves s (c.shelf.seat s) c.shelf shelf → (IsInOrder (seen_by s c.shelf) → Agrees (knows t.known) (seen_by s c.shelf) → Agrees (knows new) (seen_by s c.shelf)) →
        Comes M s c (reads_at t (Gathering item n later place)) (with_shelf shelf c) (reads_at (knowing t new) stage) []
    read-behind shelf new moves agrees left total =
        reads-more M orderly s c shelf left total t.standing t.known new t.spoken (Gathering item n later place) stage (sym same-statement) (sym plain-behind) (still-fits t.spoken) moves.others moves.now moves.mine moves.space agrees

-- there is more of it to read
module _ (M : Model) (orderly : IsOrderly M) (s : ℕ) (c : Shared) (t : ReaderTerms) (item : Item) (n : Need) (later : List Need) (place : ℕ) where
  pub read-more-of-it : (shelf : Shelf) (new : Held) → Moves s (c.shelf.seat s) c.shelf shelf → (IsInOrder (seen_by s c.shelf) → Agrees (knows t.known) (seen_by s c.shelf) → Agrees (knows new) (seen_by s c.shelf)) →
      Comes M s c (reads_at t (Gathering item n later place)) (with_shelf shelf c) (reads_at (knowing t new) (Gathering item n later place)) []
  read-more-of-it shelf new moves agrees left total =
      reads-more M orderly s c shelf left total t.standing t.known new t.spoken (Gathering item n later place) (Gathering item n later place) refl refl (λ stays. stays) moves.others moves.now moves.mine moves.space agrees
