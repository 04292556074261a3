pub mod LoadTexts
