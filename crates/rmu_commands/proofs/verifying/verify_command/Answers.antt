use Rattle.std.proofs.Common.{◌≡◌, inl, inr, List, [], refl, sym, subst, ◌∙◌}
use Rattle.stable_lines.specs.Journal.{Journal, IsJournalOf}
use Rattle.rmu_texts.specs.declared.faults.VerifyFault.{VerifyFault}
use Rattle.rmu_verify.specs.Verified.{AreFaults}
use Rattle.rmu_verify.proofs.Soundness.{all_pass, all_owned, sound}
use Rattle.rmu_commands.proofs.Statuses.{gave_up, no_text, no_fault}
use Rattle.rmu_commands.proofs.verifying.verify_command.Goals as goal

pub returns-in-Err-clause-verifies : goal.returns-in-Err-clause-verifies
returns-in-Err-clause-verifies g c =
    let status = c.status_of.result in
    let is = gave_up c.in-Err.fault status c.status_of.ensures in
    record {
      faults = [];
      root = λ text t. absurd (no_text status is text);
      are = λ text t journal isj. absurd (no_text status is text);
      none = λ zero_is. refl;
      some = λ seven none. no_text status is (inr (inr seven));
      writes = λ tells. record {
        whole = λ done. elim done [
          | inl zero_is ↦ absurd (no_text status is (inl zero_is))
          | inr seven ↦ absurd (no_text status is (inr (inr seven)))
        ];
        front = λ six. absurd (no_text status is (inr (inl six)));
        none = λ gave. refl;
      };
    }

pub returns-in-Ok-clause-clean : goal.returns-in-Ok-clause-clean
returns-in-Ok-clause-clean g c = λ zero_is t.
    let content = (g.D.Disk.view c.args.disk.now).content in
    let empty : c.in-Ok.faults ≡ [] = sym c.as_slice.ensures ∙ no_fault c.write_faults.result c.as_slice.result.now c.write_faults.ensures.status zero_is in
    let are : (journal : Journal) → IsJournalOf content journal → AreFaults content journal.groups [] = (λ journal isj. subst (λ (l : List VerifyFault). AreFaults content journal.groups l) empty (c.in-Ok.ensures.faults t journal isj)) in
    record {
      root = c.in-Ok.ensures.root t;
      pages = λ journal isj. all_pass content journal.groups (are journal isj);
      owners = λ journal isj. all_owned content journal.groups (are journal isj);
      lines = λ journal isj all stands. sound content journal.groups (are journal isj) all stands;
    }
