-- An action that was checked is not refused for its names any more.
use Rattle.std.proofs.Common.{◌≡◌, Result, Ok, Err, [], Some, None, refl, sym, ◌∙◌}
use Rattle.rdo_ast.specs.declared.reply.Standing.{Standing}
use Rattle.rdo_ast.specs.Tree.{Act}
use Rattle.rdb_meaning.specs.declared.tables.Tables.{Tables}
use Rattle.rdb_meaning.specs.Checks.{Refusal, or_else, reservation_refusal, act_names, act_uses, act_clashes}
use Rattle.rdb_meaning.specs.Meaning.{act_standing_refusal, act_refusal, clash, reservations_of}
use Rattle.rdb_checks.specs.declared.stop.Stop.{Stop}
use Rattle.rdb_checks.specs.declared.stop.Stop.TheVariants.{Refused, Memory}
use Rattle.rdb_checks.specs.Answers.{Finds}

unnamed : (standing names later : Refusal) → or_else standing (or_else names later) ≡ None → names ≡ None
unnamed None None later h = refl
unnamed None (Some r) later h = cc
unnamed (Some r) names later h = cc

finds_later : (A : Type 0) (found : Result A Stop) (standing names later : Refusal) → or_else standing (or_else names later) ≡ None → Finds found names → Finds found (or_else standing (or_else names later))
finds_later A (Ok x) standing names later h f = h
finds_later A (Err (Refused reply)) standing names later h f =
    let e = sym (unnamed standing names later h) ∙ f in cc
finds_later A (Err Memory) standing names later h f = tt

pub finds_checked : (A : Type 0) (found : Result A Stop) (a : Act) (standing : Standing) (t : Tables) → act_refusal a standing t ≡ None → Finds found (act_names a t []) → Finds found (act_refusal a standing t)
finds_checked A found a standing t =
    finds_later A found (act_standing_refusal a standing) (act_names a t []) (or_else (reservation_refusal (reservations_of standing) (act_uses a [])) (clash (act_clashes a t [])))
