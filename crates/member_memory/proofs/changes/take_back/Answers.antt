use Rattle.std.proofs.Common.{◌≡◌, ◌≤◌, ◌<◌, ◌++◌, [], ◌∷◌, length, ap, arith}
use Rattle.member_memory.specs.Memory.{Memory}
use Rattle.member_memory.proofs.Growing.{grown-back, grown-none}
use Rattle.member_memory.proofs.changes.take_back.Goals as goal

pub loop-keys-preserved-in-Some : goal.loop-keys-preserved-in-Some
loop-keys-preserved-in-Some c tsn writes old grows count =
    let was = c.loop-keys.invariant tsn writes old grows count in
    let now : Memory = record { lines = c.loop-keys.lines; keys = c.loop-keys.keys.items } in
    let last : c.loop-keys.keys.items ≡ c.pop.new.self.items ++ c.in-Some.key ∷ [] = c.in-Some.ensures.items in
    let longer : length old.keys < length c.loop-keys.keys.items = omega (arith, count) in
    let back = grown-back tsn writes old now c.pop.new.self.items c.in-Some.key was longer last in
    rw c.remove-line.ensures.removed back

pub returns : goal.returns
returns c tsn writes old grows count =
    let now : Memory = record { lines = c.loop-keys.lines; keys = c.loop-keys.keys.items } in
    let few : length c.loop-keys.keys.items ≤ length old.keys = omega (arith, count) in
    let is = grown-none tsn writes old now (c.loop-keys.invariant tsn writes old grows count) few in
    (ap (λ (m : Memory). m.lines) is, ap (λ (m : Memory). m.keys) is)
