use Rattle.std.proofs.Common.{◌≡◌, ℕ, List, length, sym, subst, ◌∙◌}
use Rattle.std.specs.List.{AllByRecursion}
use Rattle.index_faults.specs.Contents.{IsPairAt}
use Rattle.index_faults.proofs.Rows.{counted, uncounted, counts, are_the_pairs, all_stand_there, never_repeat, must_repeat}
use Rattle.index_faults.proofs.contents.judge_contents.Goals as goal

pub returns-in_default-clause-unjudged : goal.returns-in_default-clause-unjudged
returns-in_default-clause-unjudged g c = λ same.
    uncounted (g.V.View.knows c.args.view.now) c.args.relation.now c.in_ok-count.field-0 c.in_default.is c.in_ok-count.ensures.none

pub returns-then-count-pairs-clause-differs : goal.returns-then-count-pairs-clause-differs
returns-then-count-pairs-clause-differs g c = λ same all sorted agrees rows has ascending held.
    let known = g.V.View.knows c.args.view.now in
    let count = counted known c.args.relation.now c.in_ok-count.field-0 c.in-Some.count c.in-Some.is c.in_ok-count.ensures.some in
    c.if-count-pairs.true (count all sorted agrees rows has
    ∙ counts known c.args.relation.now c.args.index.now.fields c.args.pairs.now all sorted agrees rows has ascending held.holds)

pub returns-then-not-branch-clause-differs : goal.returns-then-not-branch-clause-differs
returns-then-not-branch-clause-differs g c = λ same all sorted agrees rows has ascending held.
    let known = g.V.View.knows c.args.view.now in
    let stand = all_stand_there known c.args.relation.now c.args.index.now.fields c.args.pairs.now all sorted agrees rows has ascending c.requires held.holds in
    c.in_ok-all_stand.ensures.no c.if-not-branch.true (subst (λ (ps : List ℕ). AllByRecursion (IsPairAt known c.args.relation.now ps) c.args.pairs.now) (sym c.as_slice.ensures) stand)

pub returns-then-not-is_unique-clause-differs : goal.returns-then-not-is_unique-clause-differs
returns-then-not-is_unique-clause-differs g c = λ same all sorted agrees rows has ascending held.
    let known = g.V.View.knows c.args.view.now in
    let no = c.is_unique.ensures.no c.if-not-is_unique.true in
    must_repeat known c.args.relation.now c.args.index.now.fields c.args.pairs.now all sorted agrees rows has ascending held.holds no.1 (held.apart no.0)

pub returns-clause-holds : goal.returns-clause-holds
returns-clause-holds g c = λ same all sorted agrees rows has ascending.
    let known = g.V.View.knows c.args.view.now in
    let stand = subst (λ (ps : List ℕ). AllByRecursion (IsPairAt known c.args.relation.now ps) c.args.pairs.now) c.as_slice.ensures (c.in_ok-all_stand.ensures.yes c.if-not-branch.false) in
    let told = counted known c.args.relation.now c.in_ok-count.field-0 c.in-Some.count c.in-Some.is c.in_ok-count.ensures.some in
    let count : length rows ≡ length c.args.pairs.now = sym (told all sorted agrees rows has) ∙ c.if-count-pairs.false in
    let equal = are_the_pairs known c.args.relation.now c.args.index.now.fields c.args.pairs.now all sorted agrees rows has ascending stand count in
    record {
      holds = equal;
      apart = λ unique. never_repeat known c.args.relation.now c.args.index.now.fields c.args.pairs.now all sorted agrees rows has ascending equal (c.is_unique.ensures.yes c.if-not-is_unique.false unique);
    }
