-- What is seen of a line, by what the transaction wrote itself.
use Rattle.std.proofs.Common.{◌≡◌, ◌∙◌, IsTrue, Option, Some, None, sym, ap}
use Rattle.std.specs.FinMap.Entries.{find, is_sorted}
use Rattle.rdb_types.specs.declared.keys.Dbkey.{Dbkey}
use Rattle.rdb_types.specs.declared.keys.Line.{Line}
use Rattle.rdb_types.specs.Order.{dbkey_order}
use Rattle.line_view.specs.Knowledge.{Lines, line_in}
use Rattle.line_versions.specs.Lines.{shown}
use Rattle.member_memory.specs.Memory.{Memory, writes_in}
use Rattle.member_memory.proofs.Laying.{over, laid-after, waiting-after}
use Rattle.seen_lines.specs.Seen.{seen_by}

-- its own line, or what is committed
pub seen_of : (key : Dbkey) (own : Memory) (committed : Lines) → IsTrue (is_sorted dbkey_order own.lines) → line_in key (seen_by own committed) ≡ over (find dbkey_order key own.lines) (line_in key committed)
seen_of key own committed sorted = laid-after key (writes_in own.lines) committed ∙ waiting-after key own.lines (line_in key committed) sorted

pub own_seen : (key : Dbkey) (own : Memory) (committed : Lines) (line : Line) → IsTrue (is_sorted dbkey_order own.lines) → find dbkey_order key own.lines ≡ Some line → shown line ≡ line_in key (seen_by own committed)
own_seen key own committed line sorted is = sym (seen_of key own committed sorted ∙ ap (λ (x : Option Line). over x (line_in key committed)) is)

pub other_seen : (key : Dbkey) (own : Memory) (committed : Lines) → IsTrue (is_sorted dbkey_order own.lines) → find dbkey_order key own.lines ≡ None → line_in key committed ≡ line_in key (seen_by own committed)
other_seen key own committed sorted none = sym (seen_of key own committed sorted ∙ ap (λ (x : Option Line). over x (line_in key committed)) none)
