use Rattle.std.proofs.Common.{◌≡◌, inl, inr, ◌++◌, ℕ, List, [], ◌∷◌, Some, length, length-append, sym, ap, subst, ◌∙◌, arith}
use Rattle.std.proofs.lemmas.Option.{same_Some}
use Rattle.std.specs.Prelude.{slice_get}
use Rattle.rdb_types.specs.declared.keys.Dbkey.{Dbkey}
use Rattle.rdb_types.specs.declared.keys.Line.{Line}
use Rattle.line_moves.specs.Lines.{ChangedLines}
use Rattle.member_memory.specs.Memory.{Memory}
use Rattle.disk_store.specs.declared.member.Member.{Member}
use Rattle.disk_store.specs.Commits.{HasClass}
use Rattle.disk_store.proofs.Members.{lent-there}
use Rattle.disk_store.proofs.Closing.{one-member}
use Rattle.disk_store.proofs.Ordered.{found-by}
use Rattle.disk_store.proofs.Classed.{got-more, classed}
use Rattle.disk_store.proofs.held.Held.classes_of.Goals as goal

pub class_at-requires : goal.class_at-requires
class_at-requires c =
    let i = c.loop-line.line-index in
    let its = c.written.ensures in
    let m : Member = its.0 in
    let each = c.sound.ensures.each c.args.s.number m its.1 in
    let same : c.lines-lines.result.now ≡ m.written.lines = c.lines-lines.ensures.value ∙ ap (λ (w : Memory). w.lines) its.2 in
    let got = lent-there c.lines-lines.result.now i c.line-item.result c.loop-line-test.true c.line-item.is in
    let line = c.line-item.result in
    let lies = each.lies line.0 line.1 (found-by m.written.lines each.keys.ordered i line (ap (λ (ls : ChangedLines). slice_get ls i) (sym same) ∙ got)) in
    (lies.place, lies.is, lies.is_line)

pub loop-line-preserved : goal.loop-line-preserved
loop-line-preserved c =
    let i = c.loop-line.line-index in
    let its = c.written.ensures in
    let m : Member = its.0 in
    let own = c.sound.ensures.each c.args.s.number m its.1 in
    let same : c.lines-lines.result.now ≡ m.written.lines = c.lines-lines.ensures.value ∙ ap (λ (w : Memory). w.lines) its.2 in
    let item : Dbkey × Line = c.line-item.result in
    let there : slice_get c.lines-lines.result.now i ≡ Some item = lent-there c.lines-lines.result.now i item c.loop-line-test.true c.line-item.is in
    let lies = own.lies item.0 item.1 (found-by m.written.lines own.keys.ordered i item (ap (λ (ls : ChangedLines). slice_get ls i) (sym same) ∙ there)) in
    let has : HasClass c.args.self.now.tables item c.class_at.result = classed c.args.self.now.tables item c.class_at.result lies c.class_at.ensures in
    let items : c.push.new.self.items ≡ c.loop-line.classes.items ++ c.class_at.result ∷ [] = c.in_ok-push.ensures.items in
    record {
      long = let all = ap (λ (xs : List ℕ). length xs) items in let both = length-append c.loop-line.classes.items (c.class_at.result ∷ []) in let before = c.loop-line.invariant.long in omega (arith, all, both, before);
      each = λ k line class got of. elim (got-more c.loop-line.classes.items c.class_at.result class k (ap (λ (xs : List ℕ). slice_get xs k) (sym items) ∙ of)) [
        | inl before ↦ c.loop-line.invariant.each k line class got before
        | inr last ↦ subst (λ (x : ℕ). HasClass c.args.self.now.tables line x) last.1
            (subst (λ (l : Dbkey × Line). HasClass c.args.self.now.tables l c.class_at.result) (same_Some item line (sym there ∙ (ap (λ (n : ℕ). slice_get c.lines-lines.result.now n) (sym (last.0 ∙ c.loop-line.invariant.long)) ∙ got))) has)
      ];
    }

pub returns : goal.returns
returns c m is =
    let its = c.written.ensures in
    let one : its.0 ≡ m = one-member c.args.self.now.members c.args.s.number its.0 m its.1 is in
    let same : c.lines-lines.result.now ≡ m.written.lines = c.lines-lines.ensures.value ∙ (ap (λ (w : Memory). w.lines) its.2 ∙ ap (λ (x : Member). x.written.lines) one) in
    record {
      long = let all = ap (λ (ls : ChangedLines). length ls) same in let long = c.loop-line.invariant.long in let end = c.loop-line-test.false in let within = c.loop-line.auto.line-index-end in omega (arith, all, long, end, within);
      each = λ k line class got of. c.loop-line.invariant.each k line class (ap (λ (ls : ChangedLines). slice_get ls k) same ∙ got) of;
    }
