use Rattle.std.proofs.Common.{◌≡◌, ◌∙◌, ◌+◌, ◌<◌, ◌∷◌, [], ap, drop, length, sym, arith, rules}
use Rattle.offline.specs.Common.{drop_all, drop_more, get_or_read, Pointer}
use Rattle.offline.proofs.NoteLemmas.{noting_first, noting_last, noting_next}
use Rattle.offline.proofs.notes.note_list.Goals as goal

pub loop-k-init : goal.loop-k-init
loop-k-init g c = record {
  limits = search rules;
  noted = λ y earlier stand.
      let met = g.met.H.HearsFaults in
      noting_first g.H.HearsFaults.hears met.hears_none met.hears_more y c.args.owner earlier c.args.list.now.items c.args.owners.now c.args.hearer.now stand;
}

pub loop-k-preserved : goal.loop-k-preserved
loop-k-preserved g c =
    let met = g.met.H.HearsFaults in
    let list = c.args.list.now.items in
    let k = c.loop-k.k in
    let pointer = c.index.result.now in
    let below : k < length list = omega (arith, c.len-k-end.ensures) in
    let next : drop k list ≡ pointer ∷ drop (k + 1) list
    = drop_more list k pointer below ∙ ap (λ (p : Pointer). p ∷ drop (k + 1) list) (sym (get_or_read list k pointer below c.index.ensures pointer)) in
    record {
      limits = search rules;
      noted = λ y earlier stand.
          noting_next g.H.HearsFaults.hears met.hears_none met.hears_more y c.args.owner earlier list (drop k list) (pointer ∷ []) (drop (k + 1) list)
          c.loop-k.owners c.note_pointer.new.owners c.args.hearer.now c.loop-k.hearer c.note_pointer.new.hearer
          (c.loop-k.invariant.noted y earlier stand) next (c.note_pointer.ensures.noted y);
    }

pub returns-clause-noted : goal.returns-clause-noted
returns-clause-noted g c = λ y earlier stand.
    let list = c.args.list.now.items in
    noting_last g.H.HearsFaults.hears y c.args.owner earlier list (drop c.loop-k.k list) c.loop-k.owners c.args.hearer.now c.loop-k.hearer
    (c.loop-k.invariant.noted y earlier stand)
    (drop_all c.loop-k.k list (omega (arith, c.len-k-end.ensures)))
