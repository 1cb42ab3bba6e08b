use Rattle.std.proofs.Common.{◌≡◌, Bool, true, false, Result, Ok, Err, refl}
use Rattle.line_store.specs.Rooms.{Takes}
use Rattle.line_store.specs.Sights.{IsSame}
use Rattle.store_desk.specs.Places.{Fits}
use Rattle.store_desk.proofs.Standing.{stays-there}
use Rattle.store_desk.proofs.desk.Desk.take_room.Goals as goal

either : {E : Type 0} (r : Result Bool E) (A : Type 0) → (r ≡ Ok true → A) → ((r ≡ Ok true → ⊥) → A) → A
either (Ok true) A taken refused = taken refl
either (Ok false) A taken refused = refused (λ e. cc e)
either (Err x) A taken refused = refused (λ e. cc e)

pub invariant_of-self : goal.invariant_of-self
invariant_of-self g c =
    let sight = g.L.LineStore.sight in
    let old = sight c.args.self.now.store in
    let s = c.args.s.number in
    let fits = c.args.self.now.fits in
    let there = old.stand s in
    record {
      fits = either c.take_room.result (Fits (sight c.take_room.new.self) c.args.self.now.places)
          (λ is. stays-there old c.args.self.now.places fits s c.requires there (Takes c.args.key) (sight c.take_room.new.self) (c.take_room.ensures.taken is) refl)
          (λ not. stays-there old c.args.self.now.places fits s c.requires there IsSame (sight c.take_room.new.self) (c.take_room.ensures.refused not) refl);
    }
