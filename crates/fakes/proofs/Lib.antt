mod Spending
