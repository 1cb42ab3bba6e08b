use Rattle.std.proofs.Common.{◌≡◌, ◌∷◌, ◌++◌, take}
use Rattle.std.specs.Prelude.{decimal}
use Rattle.std.specs.List.{flat_map}
use Rattle.rdb_account.proofs.text.sessions_text.Given as goal

abbrev pub invariant-loop-session : goal.invariant-loop-session
invariant-loop-session l = l.out ≡ l.initial.out ++ flat_map (λ s. 32 ∷ decimal s) (take l.session-index l.sessions)
