use Rattle.std.proofs.Common.{ℕ, refl, sym, ap, take}
use Rattle.line_view.specs.Knowledge.{lines_in}
use Rattle.line_view.specs.Held.{Held}
use Rattle.line_store.specs.Shelves.{Shelf, seen_by}
use Rattle.line_store.specs.Sights.{LearnsSome}
use Rattle.memory_store.specs.Kept.{Kept, shelf_of, sight_of}
use Rattle.memory_store.proofs.store.MemoryStoreLineStore.learn_area.Goals as goal

-- nothing is known in addition
none-more : (k : Kept) (s area : ℕ) (known : Held) → LearnsSome (sight_of k) s area known known
none-more k s area known = record {
  lines = seen_by s (shelf_of k);
  learnt = (0, refl);
  seen = λ h shown. ap (λ (x : Shelf). take 0 (lines_in area (seen_by s x))) (sym shown);
}

pub returns-in_default-clause-not_yet : goal.returns-in_default-clause-not_yet
returns-in_default-clause-not_yet c not_done = none-more c.args.self.now c.args.s.number c.args.area c.args.known.now
