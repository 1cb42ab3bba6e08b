use Rattle.std.proofs.Common.{◌≡◌, ◌≤◌, ◌<◌, ◌+◌, ℕ, List, take, Err, length, inl, inr, refl, sym, ap, subst, arith}
use Rattle.std.proofs.lemmas.Grind.{common_steps}
use Rattle.line_store.specs.declared.answers.ChangeStop.{ChangeStop}
use Rattle.line_store.specs.Seats.{lines_added}
use Rattle.reader_lines.specs.version_writing.Slots.{SlotTable, IsFullOf}
use Rattle.member_memory.specs.Memory.{writes_in}
use Rattle.member_memory.specs.declared.changes.AddStop.{AddStop}
use Rattle.member_memory.specs.declared.changes.AddStop.TheVariants.{Full, NoMemory}
use Rattle.disk_store.specs.Changing.{Stops, stop_of, all_of}
use Rattle.disk_store.proofs.changing.lay_lines.Goals as goal

pub returns-in-Err-clause-cause : goal.returns-in-Err-clause-cause
returns-in-Err-clause-cause c = subst (λ (x : ChangeStop). Stops c.args.lines.now c.args.writes.now c.args.slots.now c.args.limit x) (sym c.stopped.ensures) (by c.in-Err.stop (λ e. c.in-Err.ensures.full (ap Err e)))
  where
    by : (stop : AddStop) → (stop ≡ Full → c.args.limit < length c.args.lines.now.keys + lines_added (writes_in c.args.lines.now.lines) c.args.writes.now) → Stops c.args.lines.now c.args.writes.now c.args.slots.now c.args.limit (stop_of stop c.args.limit)
    by Full full = record { limit_is = refl; more_lines = full refl }
    by NoMemory full = tt

few-of : {X : Type 0} (a n : ℕ) (xs : List X) → a ≤ length (take n xs) → a ≤ n
few-of a n xs less = let short = short-take n xs in omega (arith, less, short)
  where
    short-take : {X : Type 0} (n : ℕ) (xs : List X) → length (take n xs) ≤ n
    short-take n xs = grind (arith, common_steps)

more-full : (t : SlotTable) (some all limit : ℕ) → some ≤ all → IsFullOf t some limit → IsFullOf t all limit
more-full t some all limit less full = record { limit_is = full.limit_is; fewer = let few = full.fewer in omega (arith, few, less) }

pub returns-in-Err-set_aside-clause-cause : goal.returns-in-Err-set_aside-clause-cause
returns-in-Err-set_aside-clause-cause c =
    let wanted = c.wanted_of-wanted.result in
    let limit = c.in-Err-set_aside.full.limit in
    record {
      wanted = all_of wanted;
      few =
          let short = few-of _ _ _ c.wanted_of-wanted.ensures.count in
          let added = c.in_default.ensures.added.added.count in
          let now = ap (λ ks. length ks) c.keys.ensures.value in
          let old = ap (λ ks. length ks) c.keys-count.ensures.value in
          omega (arith, short, added, now, old);
      full = elim c.in-Err-set_aside.ensures.full [
        | inl first ↦ inl (more-full c.args.slots.now.catalog wanted.catalog (all_of wanted) limit (omega arith) first)
        | inr rest ↦ inr (elim rest [
          | inl second ↦ inl (more-full c.args.slots.now.relations wanted.relations (all_of wanted) limit (omega arith) second)
          | inr third ↦ inr (more-full c.args.slots.now.indexes wanted.indexes (all_of wanted) limit (omega arith) third)
        ])
      ];
    }
