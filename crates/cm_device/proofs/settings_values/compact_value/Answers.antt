use Rattle.std.proofs.Common.{drop, take, inr, refl}
use Rattle.cm_device.proofs.settings_values.compact_value.Goals as goal

pub returns : goal.returns
returns c = λ file all is.
    let section = c.args.item.now.section.now in
    let index = c.in_ok-index.ensures in
    let described = c.in_ok-described.ensures.item file all in (
      refl,
      record {
        has = is;
        key_is = inr record {
          digits = take 4 section;
          word = drop 4 section;
          parts = index.parts;
          four = index.four;
          word_is = index.word_is;
          index_is = index.index_is;
          sub_is = c.in_ok-sub.ensures.0;
          described_is = described.1.0;
          written = c.in_ok-described.described.now.key.now;
          text = c.in_ok-described.described.now.value.now;
          has = described.0;
          key_is = described.1.1;
          count = c.in_ok-plain_number.field-0;
          count_is = c.in_ok-plain_number.ensures.number;
          inside = c.in_ok-sub.ensures.1;
        };
      },
    )
