use Rattle.std.proofs.Common.{◌≡◌, ◌≤◌, ℕ, List, [], ◌∷◌, ◌++◌, All, length, ap, ◌∙◌, subst, sym, arith}
use Rattle.std.proofs.lemmas.List.Elements.{All-nil}
use Rattle.workload_scripts.specs.Draws.{behind_transfers}
use Rattle.workload_scripts.specs.Scripts.{transfers_to, transfer_script, transfer_scripts_to}
use Rattle.workload_scripts.proofs.Lengths.{of_session, short_more}
use Rattle.workload_scripts.proofs.Turns.{no_script, four_scripts, first_drawn, script_more, session_drawn}
use Rattle.workload_scripts.proofs.scripts.transfer_scripts.Goals as goal

pub loop-session-init : goal.loop-session-init
loop-session-init c = record {
  texts = c.new-texts.ensures.items ∙ no_script c.args.accounts;
  number = first_drawn c.args.accounts;
  short = subst (λ (texts : List (List ℕ)). All (λ text. length text ≤ 10000) texts) (sym c.new-texts.ensures.items) (All-nil (λ text. length text ≤ 10000));
}

pub loop-session-preserved : goal.loop-session-preserved
loop-session-preserved c =
    let accounts = c.args.accounts in
    let sessions = c.loop-session._session in
    let number = c.loop-session.invariant.number in
    let text : c.transfers_text.new.out ≡ transfer_script accounts sessions =
    c.in_ok-number.ensures.text
    ∙ ap (λ (l : List ℕ). l ++ transfers_to accounts c.loop-session.number 25) c.new-text.ensures
    ∙ ap (λ (x : ℕ). transfers_to accounts x 25) number in
    let texts : c.push.new.self.items ≡ c.loop-session.texts.items ++ c.transfers_text.new.out ∷ [] = c.in_ok-push.ensures.items in
    record {
      texts = texts ∙ (λ i. c.loop-session.invariant.texts i ++ text i ∷ []) ∙ script_more accounts sessions;
      number = c.in_ok-number.ensures.number ∙ ap (λ (x : ℕ). behind_transfers x 25) number ∙ session_drawn accounts sessions;
      short = subst (λ (all : List (List ℕ)). All (λ text. length text ≤ 10000) all) (sym texts)
          (short_more c.loop-session.texts.items c.transfers_text.new.out c.loop-session.invariant.short
          (subst (λ (l : List ℕ). length l ≤ 10000) (sym text) (of_session accounts sessions c.requires.some c.ranges.accounts.fits)));
    }

pub returns-clause-four : goal.returns-clause-four
returns-clause-four c =
    let at : c.loop-session._session ≡ 4 = omega (arith, c.loop-session-test.false, c.loop-session.auto._session-end) in
    ap length (c.loop-session.invariant.texts ∙ ap (λ (n : ℕ). transfer_scripts_to c.args.accounts n) at) ∙ four_scripts c.args.accounts
