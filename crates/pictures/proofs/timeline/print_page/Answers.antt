use Rattle.std.proofs.KnownBytes.{Appends-trans}
use Rattle.std.proofs.lemmas.Result.{on_ok_weaker}
use Rattle.pictures.specs.Timeline.{page_text}
use Rattle.pictures.proofs.timeline.print_page.Goals as goal

pub returns : goal.returns
unfolding page_text
returns g c = record {
  ok = on_ok_weaker c.print_markup.result
      (λ end. Appends-trans _ _ _ _ _ c.in_ok-open_page.ensures.ok end)
      c.print_markup.ensures.ok;
}
