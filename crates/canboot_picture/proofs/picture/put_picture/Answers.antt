use Rattle.std.proofs.Common.{◌≡◌, List, length, sym, ◌∙◌, ap, subst}
use Rattle.cm_sequential.specs.declared.manager.Manager.{Manager}
use Rattle.canboot_picture.specs.Columns.{AreColumns}
use Rattle.canboot_picture.specs.Spans.{width_of}
use Rattle.canboot_picture.proofs.Whole.{picture_written}
use Rattle.canboot_picture.proofs.picture.put_picture.Goals as goal

pub returns : goal.returns
returns g c = λ entries is.
    let net = c.args.network.now in
    let scale = c.args.picture.now.scale in
    let columns = subst (λ (ms : List Manager). AreColumns net entries scale.width ms) (sym c.as_slice.ensures.value) is.columns in
    let divided = columns.divided in
    let all : c.len-columns.result ≡ length c.as_slice.result.now = c.len-columns.ensures ∙ sym c.as_slice.ensures.len in
    let wide : c.width_of-width.result ≡ width_of scale (length c.as_slice.result.now) = c.width_of-width.ensures ∙ ap (width_of scale) all in
    picture_written c.write_all.result net entries scale (length c.as_slice.result.now) c.width_of-width.result c.height_of-height.result c.as_slice-2.result.now
    _ _ _ _ _ _ _ is.counted divided is.seen is.narrow wide c.height_of-height.ensures c.in_ok-put_head.ensures c.in_ok-put_style.ensures c.in_ok-put_heading.ensures
    (c.in_ok-put_lanes.ensures entries columns) c.in_ok-put_marks.ensures c.write_all.ensures.bytes
