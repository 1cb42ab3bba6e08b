-- What was found for a job that is worked over nothing that is known, and who finds nowhere that it fits.
use Rattle.std.proofs.Common.{◌≡◌, ℕ, ◌∷◌, [], Bool, List, ◌∙◌, sym, subst, None, Some}
use Rattle.rdo_ast.specs.declared.reply.Standing.{Standing}
use Rattle.rdo_ast.specs.declared.reply.Standing.TheVariants.{Closed}
use Rattle.rdo_ast.specs.declared.syntax.Item.{Item}
use Rattle.rdo_ast.specs.Tree.{Uttered}
use Rattle.rdo_ast.specs.Views.{uttered_of}
use Rattle.rdb_account.specs.Events.{Said}
use Rattle.rdb_account.specs.Places.{Opening, Place, begins}
use Rattle.rdb_meaning.specs.Contents.{no_tables}
use Rattle.line_view.specs.Held.{Held, knows, nothing}
use Rattle.line_view.specs.Knowledge.{Agrees}
use Rattle.line_store.specs.Shelves.{Shelf}
use Rattle.session_limits.specs.line_steps.Right.{Ground, Reads}
use Rattle.session_limits.specs.line_steps.Steps.{Here}
use Rattle.session_limits.proofs.of_line_steps.Kept.{arrives}
use Rattle.rdb_types.specs.declared.keys.Dbkey.{Dbkey}
use Rattle.session_jobs.specs.Records.{Model, IsOrderly}
use Rattle.session_jobs.specs.Jobs.{IsFound}
use Rattle.session_jobs.specs.declared.jobs.Found.{Found}
use Rattle.session_jobs.specs.declared.jobs.Found.TheVariants.{Done, Bad}
use Rattle.session_jobs.specs.declared.jobs.TxRecord.{TxRecord}
use Rattle.session_limits.specs.session_states.declared.stage.ReaderWork.TheVariants.{Out}
use Rattle.session_limits.specs.session_states.declared.stage.ReaderStage.TheVariants.{Working}
use Rattle.session_limits.specs.session_states.declared.stage.Phase.TheVariants.{Outside, Reading}
use Rattle.session_limits.specs.session_states.declared.stage.Member.{Member}
use Rattle.session_limits.specs.session_states.States.{reader, seen, session}
use Rattle.session_limits.specs.session_states.Shared.{Shared}
use Rattle.session_limits.specs.session_states.Steps.{Finds, Step}
use Rattle.session_limits.proofs.of_session_states.Outside.{answers-on}
use Rattle.session_limits.proofs.of_session_states.Parting.{nothing-agrees}
use Rattle.session_limits.proofs.of_session_states.Resting.{none-dead}
use Rattle.stage_steps.specs.Scenes.{Scene, FindsNone, on_shelf}
use Rattle.stage_steps.specs.Turns.{TakesUp}

module _ (M : Model) where
  -- the same by other names
  pub found-as : (word made : List ℕ) (item : Uttered) (known : Held) (found so : Found) → made ≡ word → known ≡ nothing → found ≡ so → IsFound M made Closed item (knows known) found → IsFound M word Closed item (knows nothing) so
  found-as word made item known found so e bare f h =
      subst (λ (w : List ℕ). IsFound M w Closed item (knows nothing) so) e
      (subst (λ (u : Held). IsFound M made Closed item (knows u) so) bare
      (subst (λ (x : Found). IsFound M made Closed item (knows known) x) f h))

  -- the empty map is sound, and agrees with nothing that is known: so no line is bad
  pub never-bad-outside : M [] no_tables → (word : List ℕ) (item : Uttered) (key : Dbkey) → IsFound M word Closed item (knows nothing) (Bad key) → ⊥
  never-bad-outside empty word item key found = found [] no_tables empty (nothing-agrees [])

  -- a reader's job calls no line bad: the lines at its start are sound, and agree with what it knows
  pub never-bad-reading : (s : ℕ) (c : Shared) (left : List Item) (total : ℕ) (standing : Standing) (known : Held) (spoken : Bool) (item : Item) (key : Dbkey) → IsFound M c.word standing (uttered_of item) (knows known) (Bad key) →
      (o : Opening) (p : Place) (g : Ground) → Finds M o p g c s (session left total (Reading (reader standing known spoken (Working item Out)))) → ⊥
  never-bad-reading s c left total standing known spoken item key found o p g f =
      let w : Reads M p g s standing (Some (uttered_of item)) = f.here.stands.state in
      found (g.desk s).start w.transaction.base w.is.stands (subst (λ u. Agrees u (g.desk s).start) f.fits.phase.known w.is.agrees)

  -- who finds nowhere that it fits behind a step of the phase alone, finds it nowhere before
  pub none-first : IsOrderly M → (s : ℕ) (c : Scene) (m n : Member) → ((h : Shelf) (dead : ℕ) → Step M s (on_shelf c h dead) m (on_shelf c h dead) n []) → FindsNone M s c n → FindsNone M s c m
  none-first orderly s c m n step none h shown dead o p g f =
      let x = (step h dead).leaves o p g f in
      let alive : x.ground.dead ≡ 0 = x.fits.ground.dead ∙ (sym f.fits.ground.dead ∙ none-dead M orderly o p g s (seen m) f.here) in
      let here : Here M o p x.ground s (seen n) = subst (λ (y : Place). Here M o y x.ground s (seen n)) (sym x.steps.leads) (arrives M orderly o p g x.ground s (seen m) (seen n) [] alive f.here x.steps) in
      none h shown dead o p x.ground (record { word = f.word; here = here; fits = x.fits; counted = x.counted })

  -- what was worked over nothing is said outside a transaction
  pub answered-from : IsOrderly M → (s : ℕ) (c : Shared) (item : Item) (made : List ℕ) (known : Held) (found : Found) (r : TxRecord) → begins (uttered_of item) ≡ None → made ≡ c.word → known ≡ nothing → found ≡ Done r →
      IsFound M made Closed (uttered_of item) (knows known) found → TakesUp M s item c Outside c Outside [] (Said s (uttered_of item) r.choices r.reply ∷ [])
  answered-from orderly s c item made known found r none word bare so right = λ left total. answers-on M orderly s c item left total r none (found-as c.word made (uttered_of item) known found (Done r) word bare so right)
