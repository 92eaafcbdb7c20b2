use Rattle.cluster_files.proofs.PrintedTokens.{read_back}
use Rattle.cluster_files.proofs.laws.printed_tokens_read_back.Goals as goal

pub returns : goal.returns
returns c form tokens tree d = read_back form tokens tree d
