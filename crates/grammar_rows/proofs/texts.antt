-- The derivations of the texts of rows.
pub mod OperatorsTexts
pub mod AssignmentsTexts
pub mod PrefixesTexts
pub mod CallsTexts
pub mod LiteralsTexts
pub mod HeadersTexts
pub mod WrittenFormTexts
pub mod NamesTexts
pub mod FormalsTexts
pub mod StatementsTexts
pub mod ExpressionStatementsTexts
pub mod JumpsTexts
pub mod LabelsTexts
pub mod SemicolonsTexts
pub mod ParenthesesTexts
pub mod SpacesTexts
pub mod TokensWrittenTexts
