use Rattle.std.proofs.Common.{◌∙◌, sym}
use Rattle.toml.specs.View.{view}
use Rattle.settings_file.specs.Rules.{is_this, text_in}
use Rattle.settings_file.proofs.Lists.{any-seen}
use Rattle.settings_file.proofs.texts.is_text_of.Goals as goal

pub returns : goal.returns
returns c = c.have_text.ensures ∙ sym (any-seen view
    (λ t. is_this c.args.text.now (text_in c.args.key.now t)) c.args.tables.now)
