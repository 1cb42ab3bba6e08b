-- What comes of an action, over a map of lines with its tables.
use Rattle.std.specs.Prelude.{◌≡◌, ℕ, List, [], ◌∷◌, map, Option, Some, None}
use Rattle.std.specs.List.{All}
use Rattle.std.specs.List.Sorted.{IsStrictlySortedBy}
use Rattle.rdb_types.specs.declared.keys.Dbkey.{Dbkey}
use Rattle.rdb_types.specs.Order.{dbkey_order}
use Rattle.rdo_ast.specs.declared.reply.Reply.{Reply}
use Rattle.rdo_ast.specs.declared.reply.Reply.TheVariants as replies
use Rattle.rdo_ast.specs.declared.reply.Standing.{Standing}
use Rattle.rdo_ast.specs.Tree.{Act, perform}
use Rattle.rdb_meaning.specs.declared.tables.Tables.{Tables}
use Rattle.rdb_meaning.specs.Meaning.{act_refusal}
use Rattle.line_view.specs.Knowledge.{Knowledge, Lines, Agrees}
use Rattle.line_view.specs.Writes.{laid_all}
use Rattle.line_view.specs.Stops.{Lacks}
use Rattle.catalog.specs.declared.reading.Catalog.{Catalog}
use Rattle.sound_changes.specs.Standing.{IsSoundAs}
use Rattle.view_stages.specs.Records.{Said, IsRightOver}
use Rattle.rdo_acts.specs.declared.acting.Acted.{Acted}
use Rattle.rdo_acts.specs.declared.acting.Outcome.{Outcome}
use Rattle.rdo_acts.specs.declared.acting.Outcome.TheVariants.{Done, Refused, Missing, Bad, NoMemory}
use Rattle.line_view.specs.declared.need.Need.{Need}
use Rattle.rdo_acts.specs.Ahead.{AreAhead}
use Rattle.rdo_acts.specs.Ends.{reply_of}
use Rattle.rdo_acts.specs.Unwritten.{IsUnwrittenOver}

-- the record of an action that was done
abbrev pub said_of : Acted → Said
said_of acted = record { choices = acted.given; reply = replies.Done acted.lines; writes = acted.writes }

-- the record of an action that was refused, whose rows had got these Dbkeys before
abbrev pub said_refused : Reply → List Dbkey → Said
said_refused reply given = record { choices = given; reply = reply; writes = [] }

-- Where nothing refuses the action before it is done, its record is right over this map: the meaning of the action over these tables with the Dbkeys given comes to the lines printed and some tables, and the map behind the writes is sound with the same catalog and these tables.
abbrev pub IsActedOver : Acted → Act → Catalog → Lines → Tables → Type 0
IsActedOver acted a c all t = (word : List ℕ) (standing : Standing) → act_refusal a standing t ≡ None →
    (right : IsRightOver word standing (perform a) (said_of acted) all t) × IsSoundAs (laid_all acted.writes all) c right.after

-- Where nothing refuses the action before it is done, the meaning of the action over these tables with the Dbkeys given comes to this refusal, or to the writing of a row that can't be written over what is known.
abbrev pub IsRefusedOver : Option Reply → List Dbkey → Act → Knowledge → Catalog → Lines → Tables → Type 0
IsRefusedOver (Some reply) given a known c all t = (word : List ℕ) (standing : Standing) → act_refusal a standing t ≡ None →
    IsRightOver word standing (perform a) (said_refused reply given) all t
IsRefusedOver None given a known c all t = IsUnwrittenOver known all c a t

-- What comes of an action over a map that is sound with this catalog and has these tables, and with which what is known agrees: it is done, or refused; or none of the needs is known; a line is never bad, and want of memory says nothing.
abbrev pub ComesOf : Outcome → Act → Knowledge → Catalog → Lines → Tables → Type 0
ComesOf (Done acted) a known c all t = IsActedOver acted a c all t
ComesOf (Refused refusal given) a known c all t = IsRefusedOver (reply_of refusal) given a known c all t
ComesOf (Missing needs) a known c all t = All (Lacks known) needs
ComesOf (Bad key) a known c all t = ⊥
ComesOf NoMemory a known c all t = Unit {0}

-- the same over each such map
abbrev pub Comes : Outcome → Act → Knowledge → Catalog → Type 0
Comes outcome a known c = (all : Lines) (t : Tables) → Agrees known all → IsSoundAs all c t → ComesOf outcome a known c all t

-- each line is written once, in the order of the Dbkeys
abbrev pub IsOrdered : Outcome → Type 0
IsOrdered (Done acted) = IsStrictlySortedBy dbkey_order (map (λ write. write.key) acted.writes)
IsOrdered _ = Unit {0}

-- a first need, and others that come behind it
abbrev pub AreNeeds : List Need → Knowledge → Type 0
AreNeeds [] known = ⊥
AreNeeds (first ∷ needs) known = AreAhead known first needs

-- something is named that is needed, and what else is named comes behind it
abbrev pub NamesNeeds : Outcome → Knowledge → Type 0
NamesNeeds (Missing needs) known = AreNeeds needs known
NamesNeeds _ known = Unit {0}
