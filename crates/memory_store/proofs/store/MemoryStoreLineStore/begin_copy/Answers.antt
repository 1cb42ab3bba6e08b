use Rattle.std.proofs.Common.{◌≡◌, ◌∙◌, ℕ, Option, Some, ap, sym, subst, refl, []}
use Rattle.line_store.specs.Seats.{Seat, copying, begun}
use Rattle.line_store.specs.Shelves.{Shelf}
use Rattle.line_store.specs.Calls.{Moves}
use Rattle.line_store.specs.Sights.{BeginsCopying, copier_behind}
use Rattle.memory_store.specs.declared.seat.Seat.TheVariants.{Copying}
use Rattle.memory_store.specs.Kept.{Kept, seat_at, shelf_of, copier_of}
use Rattle.memory_store.proofs.Seating.{moves, copier-put}
use Rattle.memory_store.proofs.Sighted.{moved-by}
use Rattle.memory_store.proofs.store.MemoryStoreLineStore.begin_copy.Goals as goal

pub returns-clause-ok : goal.returns-clause-ok
returns-clause-ok c =
    let k = c.args.self.now in
    let s = c.args.s.number in
    let there = copying c.args.number k.lines in
    let later : Moves s there (shelf_of c.note_copier.new.self) (shelf_of c.put.new.self) =
    moves c.note_copier.new.self c.put.new.self s (Copying c.args.number c.in_ok-start.start) there c.put.ensures.now c.put.ensures.here
    (ap (copying c.args.number) (c.in_ok-start.ensures ∙ ap (λ (it : Kept). it.lines) c.self.view_is)) in
    let goes : Moves s there (shelf_of k) (shelf_of c.put.new.self) = subst (λ (h : Shelf). Moves s there h (shelf_of c.put.new.self)) (ap shelf_of c.note_copier.ensures.same) later in
    let begins : begun (seat_at k.seats s) (copying c.args.number []) ≡ Some c.args.number = ap (λ (x : Seat). begun x (copying c.args.number [])) c.requires.outside in
    moved-by k c.put.new.self s there (copying c.args.number []) (BeginsCopying s c.args.number) goes refl
    (λ n. copier-put c.note_copier.new.self c.put.new.self s (Copying c.args.number c.in_ok-start.start) c.put.ensures.now n
    ∙ (c.note_copier.ensures.copier n ∙ sym (ap (λ (b : Option ℕ). copier_behind s b (copier_of k) n) begins)))
    goes
