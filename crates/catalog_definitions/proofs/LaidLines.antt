-- Lines written one after another.
use Rattle.std.proofs.Common.{◌≡◌, ℕ, zero, suc, ◌+◌, ◌<◌, List, [], ◌∷◌, ◌++◌, take, drop, length, get_or, Some, None, refl, sym, ap, subst, ◌∙◌, arith, if◌then◌else◌}
use Rattle.std.specs.Prelude.{is_some, option_map, Result, Ok, Err, IfOk, IfErr}
use Rattle.line_view.specs.declared.need.Room.{Room}
use Rattle.rdb_types.specs.declared.keys.Dbkey.{Dbkey}
use Rattle.rdb_meaning.specs.Checks.{Refusal}
use Rattle.rdb_meaning.specs.declared.tables.Tables.{Tables}
use Rattle.rdb_checks.specs.declared.stop.Stop.{Stop as CheckStop}
use Rattle.rdb_checks.specs.declared.stop.Stop.TheVariants.{Refused, Memory}
use Rattle.rdb_definitions.specs.Answers.{Defines}
use Rattle.std.specs.List.{AllByRecursion}
use Rattle.std.proofs.lemmas.List.{take_more, drop_more, length-take-le, take-append-drop}
use Rattle.line_view.specs.declared.need.Need.TheVariants.{Room as RoomOf}
use Rattle.line_view.specs.Knowledge.{Knowledge}
use Rattle.line_view.specs.declared.writes.Write.{Write}
use Rattle.catalog_lines.specs.declared.line.CatalogLine.{CatalogLine}
use Rattle.catalog_lines.specs.Lines.{IsAllowedLine}
use Rattle.rdo_ast.specs.declared.reply.Reply.{Reply}
use Rattle.line_view.specs.declared.stop.Stop.{Stop}
use Rattle.line_view.specs.declared.stop.Stop.TheVariants.{Missing, Bad, NoMemory, Own}
use Rattle.catalog_definitions.specs.Causes.{catalog_room, rooms_from, first_unknown_room, stop_of_check, LacksRoom, StopsDefining}
use Rattle.catalog_definitions.specs.Written.{IsWritten, AreWritten}

written_last : (known : Knowledge) (nth : ℕ) (lines : List CatalogLine) (writes : List Write) (line : CatalogLine) (w : Write) → AreWritten known nth lines writes → known.room (catalog_room (nth + length lines)) ≡ Some w.key → IsWritten line w → AreWritten known nth (lines ++ line ∷ []) (writes ++ w ∷ [])
written_last known nth [] [] line w are room is = (subst (λ (n : ℕ). known.room (catalog_room n) ≡ Some w.key) (omega arith) room, is, tt)
written_last known nth [] (v ∷ writes) line w are room is = absurd are
written_last known nth (l ∷ lines) [] line w are room is = absurd are
written_last known nth (l ∷ lines) (v ∷ writes) line w are room is =
    (are.0, are.1, written_last known (nth + 1) lines writes line w are.2 (subst (λ (n : ℕ). known.room (catalog_room n) ≡ Some w.key) (omega arith) room) is)

pub written_more : (known : Knowledge) (lines : List CatalogLine) (i : ℕ) (writes : List Write) (line : CatalogLine) (w : Write) → i < length lines → line ≡ get_or lines i line → AreWritten known 0 (take i lines) writes → known.room (catalog_room i) ≡ Some w.key → IsWritten line w → AreWritten known 0 (take (i + 1) lines) (writes ++ w ∷ [])
written_more known lines i writes line w within is are room new =
    let count : 0 + length (take i lines) ≡ i = omega (arith, length-take-le i lines (omega (arith, within))) in
    subst (λ ls. AreWritten known 0 ls (writes ++ w ∷ [])) (ap (λ l. take i lines ++ l ∷ []) is ∙ sym (take_more lines i line within))
    (written_last known 0 (take i lines) writes line w are (subst (λ (n : ℕ). known.room (catalog_room n) ≡ Some w.key) (sym count) room) new)

-- the rooms of what was written are known
passed : (known : Knowledge) (nth : ℕ) (lines : List CatalogLine) (writes : List Write) → AreWritten known nth lines writes → (others : List CatalogLine) → first_unknown_room known (rooms_from nth (lines ++ others)) ≡ first_unknown_room known (rooms_from (nth + length lines) others)
passed known nth [] [] are others = ap (λ (n : ℕ). first_unknown_room known (rooms_from n others)) (omega arith)
passed known nth [] (v ∷ writes) are others = absurd are
passed known nth (l ∷ lines) [] are others = absurd are
passed known nth (l ∷ lines) (v ∷ writes) are others =
    ap (λ o. if is_some o then first_unknown_room known (rooms_from (nth + 1) (lines ++ others)) else Some (catalog_room nth)) are.0
    ∙ passed known (nth + 1) lines writes are.2 others
    ∙ ap (λ (n : ℕ). first_unknown_room known (rooms_from n others)) (omega arith)

pub known_rooms : (known : Knowledge) (nth : ℕ) (lines : List CatalogLine) (writes : List Write) → AreWritten known nth lines writes → first_unknown_room known (rooms_from nth lines) ≡ None
known_rooms known nth [] [] are = refl
known_rooms known nth [] (v ∷ writes) are = refl
known_rooms known nth (l ∷ lines) [] are = absurd are
known_rooms known nth (l ∷ lines) (v ∷ writes) are =
    ap (λ o. if is_some o then first_unknown_room known (rooms_from (nth + 1) lines) else Some (catalog_room nth)) are.0 ∙ known_rooms known (nth + 1) lines writes are.2

-- what the first room lacks
pub lacks_first : (known : Knowledge) (room : Room) (rooms : List Room) (stop : Stop Reply) → LacksRoom known (room ∷ []) stop → LacksRoom known (room ∷ rooms) stop
lacks_first known room rooms (Own reply) lacks = lacks
lacks_first known room rooms NoMemory lacks = tt
lacks_first known room rooms (Bad bad) lacks = lacks
lacks_first known room rooms (Missing need) lacks =
    elim (known.room room) as (λ o. option_map RoomOf (if is_some o then None else Some room) ≡ Some need → option_map RoomOf (if is_some o then first_unknown_room known rooms else Some room) ≡ Some need) [
      | Some key ↦ λ h. let bad : ⊥ = cc in absurd bad
      | None ↦ λ h. h
    ] lacks

-- what is lacked behind a room that is known
lacks_behind : (known : Knowledge) (room : Room) (key : Dbkey) (rooms : List Room) (stop : Stop Reply) → known.room room ≡ Some key → LacksRoom known rooms stop → LacksRoom known (room ∷ rooms) stop
lacks_behind known room key rooms (Own reply) is lacks = lacks
lacks_behind known room key rooms NoMemory is lacks = tt
lacks_behind known room key rooms (Bad bad) is lacks = lacks
lacks_behind known room key rooms (Missing need) is lacks = ap (λ o. option_map RoomOf (if is_some o then first_unknown_room known rooms else Some room)) is ∙ lacks

pub err_behind : {A : Type 0} (known : Knowledge) (room : Room) (key : Dbkey) (rooms : List Room) (r : Result A (Stop Reply)) → known.room room ≡ Some key → IfErr r (LacksRoom known rooms) → IfErr r (LacksRoom known (room ∷ rooms))
err_behind known room key rooms (Ok x) is lacks = tt
err_behind known room key rooms (Err stop) is lacks = lacks_behind known room key rooms stop is lacks

same_lacks : (known : Knowledge) (here there : List CatalogLine) (m n : ℕ) (stop : Stop Reply) → first_unknown_room known (rooms_from m here) ≡ first_unknown_room known (rooms_from n there) → LacksRoom known (rooms_from m here) stop → LacksRoom known (rooms_from n there) stop
same_lacks known here there m n (Own reply) same lacks = lacks
same_lacks known here there m n NoMemory same lacks = tt
same_lacks known here there m n (Bad bad) same lacks = lacks
same_lacks known here there m n (Missing need) same lacks = ap (option_map RoomOf) (sym same) ∙ lacks

pub lacks_at : (known : Knowledge) (lines : List CatalogLine) (i : ℕ) (writes : List Write) (line : CatalogLine) (stop : Stop Reply) → i < length lines → AreWritten known 0 (take i lines) writes → LacksRoom known (catalog_room i ∷ []) stop → LacksRoom known (rooms_from 0 lines) stop
lacks_at known lines i writes line stop within are lacks =
    let rest = get_or lines i line ∷ drop (i + 1) lines in
    let count : 0 + length (take i lines) ≡ i = omega (arith, length-take-le i lines (omega (arith, within))) in
    let split : take i lines ++ rest ≡ lines = ap (λ l. take i lines ++ l) (sym (drop_more lines i line within)) ∙ take-append-drop i lines in
    same_lacks known rest lines i 0 stop
    (ap (λ (n : ℕ). first_unknown_room known (rooms_from n rest)) (sym count) ∙ sym (passed known 0 (take i lines) writes are rest) ∙ ap (λ l. first_unknown_room known (rooms_from 0 l)) split)
    (lacks_first known (catalog_room i) (rooms_from (i + 1) (drop (i + 1) lines)) stop lacks)

pub allowed_at : (lines : List CatalogLine) (i : ℕ) (line : CatalogLine) → AllByRecursion IsAllowedLine lines → i < length lines → line ≡ get_or lines i line → IsAllowedLine line
allowed_at [] i line each within is = absurd (omega (arith, within))
allowed_at (l ∷ lines) zero line each within is = subst IsAllowedLine (sym is) each.0
allowed_at (l ∷ lines) (suc i) line each within is = allowed_at lines i line each.1 (omega (arith, within)) is

-- ---- answers

pub if_ok : {A E : Type 0} (P Q : A → Type 0) (r : Result A E) → ((x : A) → P x → Q x) → IfOk r P → IfOk r Q
if_ok P Q (Ok x) more is = more x is
if_ok P Q (Err e) more is = tt

pub stops_lacking : (known : Knowledge) (refusal : Refusal) (rooms : List Room) (stop : Stop Reply) → refusal ≡ None → LacksRoom known rooms stop → StopsDefining known refusal rooms stop
stops_lacking known refusal rooms (Missing need) none lacks = (none, lacks)
stops_lacking known refusal rooms (Own reply) none lacks = absurd lacks
stops_lacking known refusal rooms NoMemory none lacks = tt
stops_lacking known refusal rooms (Bad bad) none lacks = absurd lacks

pub stops_writing : {A : Type 0} (known : Knowledge) (refusal : Refusal) (rooms : List Room) (r : Result A (Stop Reply)) → refusal ≡ None → IfErr r (LacksRoom known rooms) → IfErr r (StopsDefining known refusal rooms)
stops_writing known refusal rooms (Ok x) none lacks = tt
stops_writing known refusal rooms (Err stop) none lacks = stops_lacking known refusal rooms stop none lacks

pub stops_refused : (B : Type 0) (known : Knowledge) (refusal : Refusal) (rooms : List Room) (old new after : Tables) (e : CheckStop) (stop : Stop Reply) → Defines {A = B} (Err e) refusal old new after → stop ≡ stop_of_check e → StopsDefining known refusal rooms stop
stops_refused B known refusal rooms old new after (Refused reply) stop defines is = subst (StopsDefining known refusal rooms) (sym is) defines.0
stops_refused B known refusal rooms old new after Memory stop defines is = subst (StopsDefining known refusal rooms) (sym is) tt
