-- What a notice answers.
use Rattle.std.specs.Prelude.{if◌then◌else◌, Option, Some, None}
use Rattle.vms_queues.specs.declared.lock_mode.Mode.{Mode}
use Rattle.lock_needs.specs.Keeping.{is_excess}
use Rattle.lock_tree.specs.declared.notice.Demotion.{Demotion}

-- the mode before and after, where the lock was stronger than what must be kept
abbrev pub notice_answer : (held keep : Mode) → Option Demotion
notice_answer held keep = if is_excess held keep then Some (record { from = held; to = keep }) else None
