-- What is named behind a first need is wanted.
use Rattle.std.proofs.Common.{◌≡◌, ◌<◌, ℕ, inl, inr, List, [], ◌∷◌, refl, sym, subst}
use Rattle.std.specs.List.{AllByRecursion}
use Rattle.rdb_types.specs.declared.keys.Dbkey.{Dbkey}
use Rattle.rdb_meaning.specs.declared.tables.Tables.{Tables}
use Rattle.line_view.specs.declared.need.Need.{Need}
use Rattle.line_view.specs.declared.need.Need.TheVariants.{Room}
use Rattle.line_view.specs.declared.need.Room as rooms
use Rattle.line_view.specs.Knowledge.{Knowledge}
use Rattle.sound_changes.proofs.Basics.{all_of}
use Rattle.sound_changes.proofs.Schemas.{catalogs_schema}
use Rattle.bound_actions.proofs.Same.{act_same}
use Rattle.rdo_bind.specs.Acting.{Act, IsBoundAct}
use Rattle.rdo_select.specs.Sources.{Listed}
use Rattle.rdo_acts.specs.declared.work.Given.{Given}
use Rattle.rdo_acts.specs.declared.work.Work.{Work}
use Rattle.rdo_acts.specs.declared.acting.Outcome.{Outcome}
use Rattle.rdo_acts.specs.declared.acting.Outcome.TheVariants as outcome
use Rattle.rdo_acts.specs.Ends.{GoTogether}
use Rattle.rdo_acts.specs.Selections.{chosen_in_act}
use Rattle.rdo_acts.specs.Ahead.{StoresMore, IsWantedBehind, AreWantedBehind, WantsBehind}
use Rattle.index_ahead.specs.Added.{AddsOnly}
use Rattle.rdo_acts.specs.Looking.{IsReadBy, IsLineOf, IsRoomWithin, WantedSo}
use Rattle.rdo_acts.specs.Told.{Finishes}
use Rattle.index_ahead.proofs.Added.{all_added}

-- ---- lines and rooms

module _ (t : Tables) (sources : Listed) (a : Act) (first : Need) where
  line_wanted : (need : Need) (keys : List Dbkey) → AllByRecursion (IsReadBy t sources (chosen_in_act a [])) keys → IsLineOf keys need → IsWantedBehind t sources a first need
  line_wanted need [] each among = absurd among
  line_wanted need (key ∷ keys) each (inl is) = subst (IsWantedBehind t sources a first) (sym is) each.0
  line_wanted need (key ∷ keys) each (inr later) = line_wanted need keys each.1 later

  pub lines_wanted : (keys : List Dbkey) (needs : List Need) → AllByRecursion (IsReadBy t sources (chosen_in_act a [])) keys → AddsOnly (IsLineOf keys) [] needs → AllByRecursion (IsWantedBehind t sources a first) needs
  lines_wanted keys needs each added = all_of (IsLineOf keys) (IsWantedBehind t sources a first) (λ need among. line_wanted need keys each among) needs (all_added (IsLineOf keys) needs added)

module _ (t : Tables) (sources : Listed) (a : Act) (room : rooms.Room) (more : ℕ) (stores : (n : ℕ) → n < more → StoresMore t a room.area n) where
  room_wanted : (need : Need) → IsRoomWithin room more need → IsWantedBehind t sources a (Room room) need
  room_wanted need within = subst (IsWantedBehind t sources a (Room room)) (sym within.2) (within.0, refl, stores within.0 within.1)

  pub rooms_wanted : (needs : List Need) → AddsOnly (IsRoomWithin room more) [] needs → AllByRecursion (IsWantedBehind t sources a (Room room)) needs
  rooms_wanted needs added = all_of (IsRoomWithin room more) (IsWantedBehind t sources a (Room room)) room_wanted needs (all_added (IsRoomWithin room more) needs added)

-- ---- what comes of an action

-- the tables of a sound map are shown
pub wanted_so : (given : Given) → GoTogether given → (a : Act) → IsBoundAct a given.schema.now.tables [] → (known : Knowledge) (first : Need) (needs : List Need) → WantedSo known given.sources.now.entries a first needs → AreWantedBehind a known given first needs
wanted_so given together a bound known first needs wanted all t agrees sound =
    wanted t (record { all = all; sorted = sound.sorted; agrees = agrees; relations = together.tables all t sound })
    (act_same given.schema.now.tables t (catalogs_schema all given.schema.now t sound.are) a [] bound)

module _ (a : Act) (known : Knowledge) (given : Given) where
  pub told_behind : (o : Outcome) (first : Need) (needs : List Need) → o ≡ outcome.Missing (first ∷ needs) → AreWantedBehind a known given first needs → WantsBehind o a known given
  told_behind o first needs is wanted = subst (λ (x : Outcome). WantsBehind x a known given) (sym is) wanted

  pub finishes_behind : (o : Outcome) (w : Work) → Finishes o w → WantsBehind o a known given
  finishes_behind (outcome.Done what) w is = tt
  finishes_behind (outcome.Refused refusal keys) w is = tt
  finishes_behind (outcome.Missing needs) w is = absurd is
  finishes_behind (outcome.Bad key) w is = tt
  finishes_behind outcome.NoMemory w is = tt
