-- All have and want the journal for themselves.
use Rattle.std.proofs.Common.{◌≡◌, ℕ, ◌∷◌, [], Bool, true, false, not, ◌&&◌, ◌||◌, List, refl, ◌∙◌, sym, ap, subst, Option, None}
use Rattle.std.specs.List.{list_all}
use Rattle.std.proofs.lemmas.Bool.{false≢true}
use Rattle.rdb_types.specs.declared.node.Node.{Node}
use Rattle.vms_queues.specs.declared.lock_mode.Mode.TheVariants.{EX}
use Rattle.vms_queues.specs.Modes.{at_most}
use Rattle.lock_needs.specs.declared.need.Need.{Need}
use Rattle.lock_needs.specs.declared.party.OpenWant.{OpenWant}
use Rattle.lock_needs.specs.Party.{Party}
use Rattle.lock_needs.specs.Nodes.{is_on}
use Rattle.lock_needs.specs.Waits.{converts_at}
use Rattle.lock_tree_laws.specs.Forest.{State, idle, opened_of, party_of}
use Rattle.lock_tree_laws.specs.Wanted.{needs_of}
use Rattle.journal_waits.specs.Holders.{is_exclusive_on, WantsExclusively, KeepsTo}
use Rattle.line_store.specs.Seats.{Seat}
use Rattle.session_states.specs.line_steps.Images.{journal_node}
use Rattle.session_states.specs.declared.stage.End.TheVariants.{Preparing, Journal, Ready, Committing, RollingBack, Leaving}
use Rattle.session_states.specs.declared.stage.Stage.{Stage}
use Rattle.session_states.specs.declared.stage.Stage.TheVariants.{Between, Working, Gathering, Reserving, Saying, Ending}
use Rattle.session_states.specs.declared.stage.Phase.{Phase}
use Rattle.session_states.specs.declared.stage.Phase.TheVariants.{Outside, Closing, Writing, Reading, Over}
use Rattle.session_states.specs.declared.stage.Life.{Life}
use Rattle.session_states.specs.declared.stage.Life.TheVariants.{Alive, Dead, Gone}
use Rattle.session_states.specs.Fits.{WantsAtMost}
use Rattle.session_states.specs.Locks.{lock_of, has_journal, HasJournal}
use Rattle.session_stands.specs.Seated.{lock_in, NeedsFit, LivesAt}

-- who has nothing on the node has it for itself
none-exclusive : (n : Node) (needs : List Need) → converts_at needs n ≡ false → list_all (is_exclusive_on n) needs ≡ true
none-exclusive n [] h = refl
none-exclusive n (w ∷ ws) h = by (is_on n w.node) (at_most EX w.mode) (converts_at ws n) (list_all (is_exclusive_on n) ws) (none-exclusive n ws) h
  where
    by : (on most some rest : Bool) → (some ≡ false → rest ≡ true) → (on || some) ≡ false → ((not on || most) && rest) ≡ true
    by true most some rest f e = absurd (false≢true (sym e))
    by false most some rest f e = f e

needs-exclusive : (b : Bool) (needs : List Need) → HasJournal b needs → list_all (is_exclusive_on journal_node) needs ≡ true
needs-exclusive true needs h = h.1
needs-exclusive false needs h = none-exclusive journal_node needs h

-- who has got the journal for its commit wants no lock
stage-rests : (stage : Stage) → has_journal stage ≡ true → lock_of stage ≡ None
stage-rests Between h = refl
stage-rests (Working item work) h = absurd (false≢true h)
stage-rests (Gathering item gather later place) h = absurd (false≢true h)
stage-rests (Reserving item r locks place) h = absurd (false≢true h)
stage-rests (Saying item r laying) h = absurd (false≢true h)
stage-rests (Ending Preparing) h = refl
stage-rests (Ending Journal) h = absurd (false≢true h)
stage-rests (Ending Ready) h = refl
stage-rests (Ending Committing) h = refl
stage-rests (Ending RollingBack) h = refl
stage-rests (Ending Leaving) h = refl

got-rests : (b : Bool) (needs : List Need) → HasJournal b needs → converts_at needs journal_node ≡ true → b ≡ true
got-rests true needs h e = refl
got-rests false needs h e = absurd (false≢true (sym h ∙ e))

rests-with : (l : Option Need) (opened : Option OpenWant) → l ≡ None → WantsAtMost l opened → opened ≡ None
rests-with l opened e h = subst (λ (k : Option Need). WantsAtMost k opened) e h

nothing-got : (needs : List Need) → needs ≡ [] → converts_at needs journal_node ≡ true → ⊥
nothing-got needs e h = false≢true (sym (ap (λ (ws : List Need). converts_at ws journal_node) e) ∙ h)

nothing-exclusive : (needs : List Need) → needs ≡ [] → list_all (is_exclusive_on journal_node) needs ≡ true
nothing-exclusive needs e = ap (λ (ws : List Need). list_all (is_exclusive_on journal_node) ws) e

phase-exclusive : (x : Phase) (needs : List Need) → NeedsFit x needs → list_all (is_exclusive_on journal_node) needs ≡ true
phase-exclusive Outside needs h = nothing-exclusive needs h
phase-exclusive Closing needs h = nothing-exclusive needs h
phase-exclusive (Writing w) needs h = needs-exclusive (has_journal w.stage) needs h
phase-exclusive (Reading r) needs h = nothing-exclusive needs h
phase-exclusive Over needs h = nothing-exclusive needs h

phase-rests : (x : Phase) (needs : List Need) (opened : Option OpenWant) → NeedsFit x needs → WantsAtMost (lock_in x) opened → converts_at needs journal_node ≡ true → opened ≡ None
phase-rests Outside needs opened f w h = absurd (nothing-got needs f h)
phase-rests Closing needs opened f w h = absurd (nothing-got needs f h)
phase-rests (Writing y) needs opened f w h = rests-with (lock_of y.stage) opened (stage-rests y.stage (got-rests (has_journal y.stage) needs f h)) w
phase-rests (Reading r) needs opened f w h = absurd (nothing-got needs f h)
phase-rests Over needs opened f w h = absurd (nothing-got needs f h)

pub idle-keeps : (p : Party) → p ≡ idle → KeepsTo journal_node p
idle-keeps p e = subst (λ (q : Party). KeepsTo journal_node q) (sym e) (record { needs = refl; want = tt; rests = λ h. refl })

wants-nothing : (opened : Option OpenWant) → opened ≡ None → WantsExclusively journal_node opened
wants-nothing opened e = subst (λ (o : Option OpenWant). WantsExclusively journal_node o) (sym e) tt

pub life-keeps : (stand : ℕ → Seat) (locks : State) (s : ℕ) (x : Phase) (life : Life) → LivesAt stand locks s x life → KeepsTo journal_node (party_of locks.parties s)
life-keeps stand locks s x Alive f = record { needs = phase-exclusive x (needs_of locks s) f.needs; want = f.beside; rests = phase-rests x (needs_of locks s) (opened_of locks s) f.needs f.wants }
life-keeps stand locks s x Dead f = record { needs = phase-exclusive x (needs_of locks s) f.needs; want = f.beside; rests = phase-rests x (needs_of locks s) (opened_of locks s) f.needs f.wants }
life-keeps stand locks s x Gone f = record { needs = nothing-exclusive (needs_of locks s) f.needs; want = wants-nothing (opened_of locks s) f.wants; rests = λ h. f.wants }
